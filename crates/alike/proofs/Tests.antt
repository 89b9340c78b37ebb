-- Points that are alike: every test that a run makes of points answers the same of points that are alike.
use Rattle.std.specs.Prelude.{◌≡◌, refl, Bool, true, false, not, ◌&&◌, ◌||◌, cond, pos}
use Rattle.std.specs.Int.Signed.{lt_z}
use Rattle.algebra.specs.Cases.{never}
use Rattle.geometry.specs.Plane.{Point, turn, eq_point, lt_point, min_point, max_point, collinear}
use Rattle.geometry.specs.Segment.{inside, same_side, shared, parallel, overlap, meets}

-- The tests of which all others are made answer the same of points that R relates.
pub record Alike (R : Point → Point → Type 0) : Type 0 where
  pub order : {a a' b b' : Point} → R a a' → R b b' → lt_point a' b' ≡ lt_point a b
  pub equal : {a a' b b' : Point} → R a a' → R b b' → eq_point a' b' ≡ eq_point a b
  pub left : {a a' b b' c c' : Point} → R a a' → R b b' → R c c' → lt_z (pos 0) (turn a' b' c') ≡ lt_z (pos 0) (turn a b c)
  pub right : {a a' b b' c c' : Point} → R a a' → R b b' → R c c' → lt_z (turn a' b' c') (pos 0) ≡ lt_z (turn a b c) (pos 0)
  pub line : {a a' b b' c c' : Point} → R a a' → R b b' → R c c' → collinear a' b' c' ≡ collinear a b c

choose : (R : Point → Point → Type 0) {a a' b b' : Point} (t t' : Bool) → t' ≡ t → R a a' → R b b' → R (cond t a b) (cond t' a' b')
choose R true true e ra rb = ra
choose R true false e ra rb = never false e refl
choose R false true e ra rb = never true refl e
choose R false false e ra rb = rb

module _ (R : Point → Point → Type 0) (al : Alike R) where
  pub min_alike : {a a' b b' : Point} → R a a' → R b b' → R (min_point a b) (min_point a' b')
  min_alike {a} {a'} {b} {b'} ra rb = choose R (lt_point a b) (lt_point a' b') (al.order ra rb) ra rb

  pub max_alike : {a a' b b' : Point} → R a a' → R b b' → R (max_point a b) (max_point a' b')
  max_alike {a} {a'} {b} {b'} ra rb = choose R (lt_point a b) (lt_point a' b') (al.order ra rb) rb ra

  pub inside_alike : {a a' b b' p p' : Point} → R a a' → R b b' → R p p' → inside a' b' p' ≡ inside a b p
  inside_alike ra rb rp = λ i. al.line ra rb rp i && (al.order (min_alike ra rb) rp i && al.order rp (max_alike ra rb) i)

  pub parallel_alike : {a a' b b' c c' d d' : Point} → R a a' → R b b' → R c c' → R d d' → parallel a' b' c' d' ≡ parallel a b c d
  parallel_alike ra rb rc rd = λ i. al.line ra rb rc i && al.line ra rb rd i

  pub meets_alike : {a a' b b' c c' d d' : Point} → R a a' → R b b' → R c c' → R d d' → meets a' b' c' d' ≡ meets a b c d
  meets_alike {a} {a'} {b} {b'} {c} {c'} {d} {d'} ra rb rc rd = λ i. cond (parallel_alike ra rb rc rd i) (over i) (not (ends i) && (not (side i) && not (other i)))
    where
      over : overlap a' b' c' d' ≡ overlap a b c d
      over = al.order (max_alike (min_alike ra rb) (min_alike rc rd)) (min_alike (max_alike ra rb) (max_alike rc rd))

      ends : shared a' b' c' d' ≡ shared a b c d
      ends = λ i. (al.equal ra rc i || al.equal ra rd i) || (al.equal rb rc i || al.equal rb rd i)

      side : same_side (turn a' b' c') (turn a' b' d') ≡ same_side (turn a b c) (turn a b d)
      side = λ i. (al.left ra rb rc i && al.left ra rb rd i) || (al.right ra rb rc i && al.right ra rb rd i)

      other : same_side (turn c' d' a') (turn c' d' b') ≡ same_side (turn c d a) (turn c d b)
      other = λ i. (al.left rc rd ra i && al.left rc rd rb i) || (al.right rc rd ra i && al.right rc rd rb i)
