-- The meeting test decides document 01's words, for all segments with different ends. Those that meet on one line meet in two different places.
use mathlib.Core.Path.{◌≡◌, refl, sym, ◌∙◌, ap}
use mathlib.Core.Bool.{true, false, ◌&&◌, ◌||◌}
use mathlib.Core.List.{[], ◌∷◌}
use mathlib.Core.Logic.{◌⊎◌, inl, inr, ◌≢◌, ◌↔◌}
use lib.IntN.{ℤ, pos, negsuc, ◌+ℤ◌, ◌-ℤ◌, ◌*ℤ◌}
use lib.Signed.{lt_z, ◌≤ℤ◌, ◌<ℤ◌}
use borrow.Author.Differences.{ints}
use native.Mathlib.Omega.{arith}
use Rattle.algebra.specs.Polynomials.{lit, ◌:+◌, ◌:-◌, ◌:*◌, neg, hyp, sub_zero}
use Rattle.algebra.specs.Identities.{ident, follows, num, pair, ◌:=◌, ◌⇐◌}
use Rattle.algebra.specs.Order.{mul_pos, mul_nonneg, <ℤ-le}
use Rattle.algebra.specs.Signs.{no_zero}
use Rattle.geometry.proofs.Turns.{turn_of_edge}
use Rattle.geometry.proofs.Places.{way_of_edge, meets_sym, mixed, meets_not_above, meets_not_below, OnLine, mir, unmirror, rev, way_rev, turn_mir}
use Rattle.geometry.specs.Plane.{Point, turn, eq_point, lt_point, min_point, collinear}
use Rattle.geometry.proofs.Points.{eq_point_true, zero_yes, zero_is, point_eq, below_is, not_below, lt_point_flip, lt_point_total, three, turn_first, turn_second}
use Rattle.geometry.specs.Segment.{CommonPlace, way, Ends, StandsAt, Meet, same_side, shared, parallel, meets}
use Rattle.geometry.specs.Contact.{SamePlace, Overlap}
use Rattle.geometry.proofs.Lines.{gap_pos, gap_le, same_x, same_y}
use Rattle.algebra.specs.Cases.{and_left, and_right, both, true_or_false, never, or_cases}
use Rattle.geometry.proofs.Crossing.{crossing, a_b, a_b', a'_b, a'_b'}
use Rattle.geometry.proofs.Symmetry.{line_rev, meets_rev, meets_rev₂, meets_swap}

-- ---- a meeting depends on neither segment's direction, nor on their order, nor on which coordinate is first
other : {v a a' : Point} → Ends v a a' → Ends v a' a
other (inl e) = inr e
other (inr e) = inl e

meet_rev : {a a' b b' : Point} → Meet a a' b b' → Meet a' a b b'
unfolding rev
meet_rev {a} {a'} m = record {
  place = rev m.place;
  no_vertex = λ v p q h. m.no_vertex v (other p) q (h.0 ∙ way_rev m.place.d m.place.s a.x a'.x, h.1 ∙ way_rev m.place.d m.place.s a.y a'.y);
}

meet_sym : {a a' b b' : Point} → Meet a a' b b' → Meet b b' a a'
unfolding meets_sym
meet_sym m = record {
  place = meets_sym m.place;
  no_vertex = λ v p q h. m.no_vertex v q p (h.0 ∙ sym m.place.at_x, h.1 ∙ sym m.place.at_y);
}

meet_rev₂ : {a a' b b' : Point} → Meet a a' b b' → Meet a a' b' b
meet_rev₂ m = meet_sym (meet_rev (meet_sym m))

end_mir : {v a a' : Point} → Ends v a a' → Ends (mir v) (mir a) (mir a')
end_mir (inl e) = inl (ap mir e)
end_mir (inr e) = inr (ap mir e)

meet_mir : (a a' b b' : Point) → Meet (mir a) (mir a') (mir b) (mir b') → Meet a a' b b'
unfolding unmirror
meet_mir a a' b b' m = record { place = unmirror m.place; no_vertex = λ v p q h. m.no_vertex (mir v) (end_mir p) (end_mir q) (h.1, h.0) }

-- so it is with two different places
same_rev : {a a' b b' : Point} (m k : CommonPlace a a' b b') → SamePlace (rev m) (rev k) → SamePlace m k
unfolding rev
same_rev {a} {a'} m k h = (
  ap (λ z. k.d *ℤ z) (sym (way_rev m.d m.s a.x a'.x)) ∙ h.0 ∙ ap (λ z. m.d *ℤ z) (way_rev k.d k.s a.x a'.x),
  ap (λ z. k.d *ℤ z) (sym (way_rev m.d m.s a.y a'.y)) ∙ h.1 ∙ ap (λ z. m.d *ℤ z) (way_rev k.d k.s a.y a'.y),
)

same_sym : {a a' b b' : Point} (m k : CommonPlace a a' b b') → SamePlace (meets_sym m) (meets_sym k) → SamePlace m k
unfolding meets_sym
same_sym m k h = (
  ap (λ z. k.d *ℤ z) m.at_x ∙ h.0 ∙ ap (λ z. m.d *ℤ z) (sym k.at_x),
  ap (λ z. k.d *ℤ z) m.at_y ∙ h.1 ∙ ap (λ z. m.d *ℤ z) (sym k.at_y),
)

overlap_rev : {a a' b b' : Point} → Overlap a a' b b' → Overlap a' a b b'
unfolding meet_rev
overlap_rev o = record { first = meet_rev o.first; second = meet_rev o.second; differ = λ h. o.differ (same_rev o.first.place o.second.place h) }

overlap_sym : {a a' b b' : Point} → Overlap a a' b b' → Overlap b b' a a'
unfolding meet_sym
overlap_sym o = record { first = meet_sym o.first; second = meet_sym o.second; differ = λ h. o.differ (same_sym o.first.place o.second.place h) }

overlap_rev₂ : {a a' b b' : Point} → Overlap a a' b b' → Overlap a a' b' b
overlap_rev₂ o = overlap_sym (overlap_rev (overlap_sym o))

overlap_mir : (a a' b b' : Point) → Overlap (mir a) (mir a') (mir b) (mir b') → Overlap a a' b b'
unfolding meet_mir unmirror
overlap_mir a a' b b' o = record { first = meet_mir a a' b b' o.first; second = meet_mir a a' b b' o.second; differ = λ h. o.differ (h.1, h.0) }

-- ---- not on one line
side_cases : (p q : ℤ) → same_side p q ≡ true → ((pos 0 <ℤ p) × (pos 0 <ℤ q)) ⊎ ((p <ℤ pos 0) × (q <ℤ pos 0))
side_cases p q h =
    both (or_cases (lt_z (pos 0) p && lt_z (pos 0) q) _ h)
    (λ g. inl (omega (arith, ints, and_left (lt_z (pos 0) p) _ g), omega (arith, ints, and_right (lt_z (pos 0) p) _ g)))
    (λ g. inr (omega (arith, ints, and_left (lt_z p (pos 0)) _ g), omega (arith, ints, and_right (lt_z p (pos 0)) _ g)))

module _ {a a' b b' : Point} (m : CommonPlace a a' b b') where
  not_one_side : same_side (turn a a' b) (turn a a' b') ≡ false
  not_one_side =
      both (true_or_false (same_side (turn a a' b) (turn a a' b')))
      (λ h. absurd (both (side_cases _ _ h) (λ g. meets_not_above m g.0 g.1) (λ g. meets_not_below m g.0 g.1)))
      (λ h. h)

  -- where just one end of b lies on a's line, the place is that end
  at_first : turn a a' b ≡ pos 0 → turn a a' b' ≢ pos 0 → StandsAt m b
  at_first z nz =
      both (no_zero m.t (turn a a' b') (only m.d m.t _ _ (mixed m) z))
      (λ e. (at_zero m.d m.s m.t a.x a'.x b.x b'.x m.at_x e, at_zero m.d m.s m.t a.y a'.y b.y b'.y m.at_y e))
      (λ e. absurd (nz e))
    where
      only : (d t p q : ℤ) → (d -ℤ t) *ℤ p +ℤ t *ℤ q ≡ pos 0 → p ≡ pos 0 → t *ℤ q ≡ pos 0
      only = follows (num ∷ num ∷ num ∷ num ∷ [])
          (λ d t p q. (t :* q := lit (pos 0)) ⇐ (hyp (lit (pos 1)) ((d :- t) :* p :+ t :* q) (lit (pos 0)) ∷ hyp (neg (d :- t)) p (lit (pos 0)) ∷ [])) tt

      at_zero : (d s t u u' v v' : ℤ) → way d s u u' ≡ way d t v v' → t ≡ pos 0 → d *ℤ v ≡ way d s u u'
      at_zero = follows (num ∷ num ∷ num ∷ num ∷ num ∷ num ∷ num ∷ [])
          (λ d s t u u' v v'. (d :* v := way_of_edge d s u u') ⇐ (hyp (lit (negsuc 0)) (way_of_edge d s u u') (way_of_edge d t v v') ∷ hyp (neg (v' :- v)) t (lit (pos 0)) ∷ [])) tt

  at_second : turn a a' b ≢ pos 0 → turn a a' b' ≡ pos 0 → StandsAt m b'
  at_second nz z =
      both (no_zero (m.d -ℤ m.t) (turn a a' b) (only m.d m.t _ _ (mixed m) z))
      (λ e. (at_one m.d m.s m.t a.x a'.x b.x b'.x m.at_x e, at_one m.d m.s m.t a.y a'.y b.y b'.y m.at_y e))
      (λ e. absurd (nz e))
    where
      only : (d t p q : ℤ) → (d -ℤ t) *ℤ p +ℤ t *ℤ q ≡ pos 0 → q ≡ pos 0 → (d -ℤ t) *ℤ p ≡ pos 0
      only = follows (num ∷ num ∷ num ∷ num ∷ [])
          (λ d t p q. ((d :- t) :* p := lit (pos 0)) ⇐ (hyp (lit (pos 1)) ((d :- t) :* p :+ t :* q) (lit (pos 0)) ∷ hyp (neg t) q (lit (pos 0)) ∷ [])) tt

      at_one : (d s t u u' v v' : ℤ) → way d s u u' ≡ way d t v v' → d -ℤ t ≡ pos 0 → d *ℤ v' ≡ way d s u u'
      at_one = follows (num ∷ num ∷ num ∷ num ∷ num ∷ num ∷ num ∷ [])
          (λ d s t u u' v v'. (d :* v' := way_of_edge d s u u') ⇐ (hyp (lit (negsuc 0)) (way_of_edge d s u u') (way_of_edge d t v v') ∷ hyp (v' :- v) (d :- t) (lit (pos 0)) ∷ [])) tt

module _ (a a' b b' : Point) (nf : (collinear a a' b && collinear a a' b') ≡ false) where
  on_end : (v : Point) → Ends v a a' → turn a a' v ≡ pos 0
  on_end v (inl e) = rw e (turn_first a a')
  on_end v (inr e) = rw e (turn_second a a')

  both_on : turn a a' b ≡ pos 0 → turn a a' b' ≡ pos 0 → ⊥
  both_on p q = never (collinear a a' b && collinear a a' b') (rw (zero_is (turn a a' b) p, zero_is (turn a a' b') q)) nf

  -- a common end of segments that are not on one line is their only common place
  pub common_end : (m : CommonPlace a a' b b') (v : Point) → Ends v a a' → Ends v b b' → StandsAt m v
  common_end m v e (inl f) = rw f (at_first m (on_end b (rw f at e)) (both_on (on_end b (rw f at e))))
  common_end m v e (inr f) = rw f (at_second m (λ z. both_on z (on_end b' (rw f at e))) (on_end b' (rw f at e)))

  crossed_meet : meets a a' b b' ≡ true → Meet a a' b b'
  crossed_meet t = record { place = crossing a a' b b' nf t; no_vertex = λ v p q _. none p q }
    where
      none : {v : Point} → Ends v a a' → Ends v b b' → ⊥
      none (inl p) (inl q) = a_b a a' b b' nf t (sym p ∙ q)
      none (inl p) (inr q) = a_b' a a' b b' nf t (sym p ∙ q)
      none (inr p) (inl q) = a'_b a a' b b' nf t (sym p ∙ q)
      none (inr p) (inr q) = a'_b' a a' b b' nf t (sym p ∙ q)

  meet_crossed : Meet a a' b b' → meets a a' b b' ≡ true
  meet_crossed m = rw (nf, no_share, not_one_side m.place, not_one_side (meets_sym m.place))
    where
      first : Ends b a a' → ⊥
      first e = m.no_vertex b e (inl refl) (common_end m.place b e (inl refl))

      second : Ends b' a a' → ⊥
      second e = m.no_vertex b' e (inr refl) (common_end m.place b' e (inr refl))

      no_share : shared a a' b b' ≡ false
      no_share =
          both (true_or_false (shared a a' b b'))
          (λ h. absurd (both (or_cases (eq_point a b || eq_point a b') _ h)
          (λ g. both (or_cases (eq_point a b) _ g) (λ k. first (inl (sym (eq_point_true a b k)))) (λ k. second (inl (sym (eq_point_true a b' k)))))
          (λ g. both (or_cases (eq_point a' b) _ g) (λ k. first (inr (sym (eq_point_true a' b k)))) (λ k. second (inr (sym (eq_point_true a' b' k)))))))
          (λ h. h)

-- ---- on one line, which is not upright: by the x of its points
le_sum : (x y z w : ℤ) → w ≡ x +ℤ (y +ℤ z) → pos 0 ≤ℤ y → pos 0 ≤ℤ z → x ≤ℤ w
le_sum x y z w e h k = omega (arith, ints)

-- u lies behind a, which is not before b, and is past no end: the two meet everywhere between a and u
module _ (a a' b b' u : Point) (la : a.x <ℤ a'.x) (lb : b.x <ℤ b'.x) (lu : a.x <ℤ u.x) (ba : b.x ≤ℤ a.x) (ua : u.x ≤ℤ a'.x) (ub : u.x ≤ℤ b'.x)
    (zu : turn a a' u ≡ pos 0) (za : turn b b' a ≡ pos 0) (zb : turn b b' u ≡ pos 0) where
  abbrev A : ℤ
  A = a'.x -ℤ a.x

  abbrev B : ℤ
  B = b'.x -ℤ b.x

  A> : pos 0 <ℤ A
  A> = gap_pos a.x a'.x la

  B> : pos 0 <ℤ B
  B> = gap_pos b.x b'.x lb

  AB> : pos 0 <ℤ (A *ℤ B)
  AB> = mul_pos A> B>

  -- g parts of u and h of a
  module _ (g h : ℤ) (g> : pos 0 <ℤ g) (h> : pos 0 <ℤ h) where
    abbrev D : ℤ
    D = (g +ℤ h) *ℤ (A *ℤ B)

    D> : pos 0 <ℤ D
    D> = mul_pos (let z : pos 0 <ℤ (g +ℤ h) = omega (arith, ints) in z) AB>

    abbrev S : ℤ
    S = g *ℤ ((u.x -ℤ a.x) *ℤ B)

    S≤ : S ≤ℤ D
    S≤ =
        le_sum S (g *ℤ ((a'.x -ℤ u.x) *ℤ B)) (h *ℤ (A *ℤ B)) D
        (ident (num ∷ num ∷ num ∷ num ∷ num ∷ num ∷ []) (λ a a' u B g h. (g :+ h) :* ((a' :- a) :* B) := g :* ((u :- a) :* B) :+ (g :* ((a' :- u) :* B) :+ h :* ((a' :- a) :* B))) tt a.x a'.x u.x B g h)
        (mul_nonneg (<ℤ-le g>) (mul_nonneg (gap_le u.x a'.x ua) (<ℤ-le B>))) (mul_nonneg (<ℤ-le h>) (<ℤ-le AB>))

    abbrev W : ℤ
    W = h *ℤ (a.x -ℤ b.x) +ℤ g *ℤ (u.x -ℤ b.x)

    W≥ : pos 0 ≤ℤ W
    W≥ =
        let p = mul_nonneg (<ℤ-le h>) (gap_le b.x a.x ba) in
        let q = mul_nonneg (<ℤ-le g>) (gap_le b.x u.x (omega (arith, ints))) in
        omega (arith, ints)

    W≤ : (W *ℤ A) ≤ℤ D
    W≤ =
        le_sum (W *ℤ A) (h *ℤ ((b'.x -ℤ a.x) *ℤ A)) (g *ℤ ((b'.x -ℤ u.x) *ℤ A)) D
        (ident (num ∷ num ∷ num ∷ num ∷ num ∷ num ∷ num ∷ []) (λ a b b' u A g h. (g :+ h) :* (A :* (b' :- b)) := (h :* (a :- b) :+ g :* (u :- b)) :* A :+ (h :* ((b' :- a) :* A) :+ g :* ((b' :- u) :* A))) tt a.x b.x b'.x u.x A g h)
        (mul_nonneg (<ℤ-le h>) (mul_nonneg (gap_le a.x b'.x (omega (arith, ints))) (<ℤ-le A>))) (mul_nonneg (<ℤ-le g>) (mul_nonneg (gap_le u.x b'.x ub) (<ℤ-le A>)))

    between : CommonPlace a a' b b'
    between = record {
      d = D;
      s = S;
      t = W *ℤ A;
      d> = D>;
      s≥ = mul_nonneg (<ℤ-le g>) (mul_nonneg (gap_le a.x u.x (<ℤ-le lu)) (<ℤ-le B>));
      s≤ = S≤;
      t≥ = mul_nonneg W≥ (<ℤ-le A>);
      t≤ = W≤;
      at_x = by_x a.x a'.x b.x b'.x u.x g h;
      at_y = by_y a a' b b' u g h zu za zb;
    }
      where
        by_x : (a a' b b' u g h : ℤ) → way ((g +ℤ h) *ℤ ((a' -ℤ a) *ℤ (b' -ℤ b))) (g *ℤ ((u -ℤ a) *ℤ (b' -ℤ b))) a a' ≡ way ((g +ℤ h) *ℤ ((a' -ℤ a) *ℤ (b' -ℤ b))) ((h *ℤ (a -ℤ b) +ℤ g *ℤ (u -ℤ b)) *ℤ (a' -ℤ a)) b b'
        by_x = ident (num ∷ num ∷ num ∷ num ∷ num ∷ num ∷ num ∷ [])
            (λ a a' b b' u g h. way_of_edge ((g :+ h) :* ((a' :- a) :* (b' :- b))) (g :* ((u :- a) :* (b' :- b))) a a' := way_of_edge ((g :+ h) :* ((a' :- a) :* (b' :- b))) ((h :* (a :- b) :+ g :* (u :- b)) :* (a' :- a)) b b') tt

        by_y : (a a' b b' u : Point) (g h : ℤ) → turn a a' u ≡ pos 0 → turn b b' a ≡ pos 0 → turn b b' u ≡ pos 0
            → way ((g +ℤ h) *ℤ ((a'.x -ℤ a.x) *ℤ (b'.x -ℤ b.x))) (g *ℤ ((u.x -ℤ a.x) *ℤ (b'.x -ℤ b.x))) a.y a'.y
            ≡ way ((g +ℤ h) *ℤ ((a'.x -ℤ a.x) *ℤ (b'.x -ℤ b.x))) ((h *ℤ (a.x -ℤ b.x) +ℤ g *ℤ (u.x -ℤ b.x)) *ℤ (a'.x -ℤ a.x)) b.y b'.y
        by_y = follows (pair ∷ pair ∷ pair ∷ pair ∷ pair ∷ num ∷ num ∷ [])
            (λ a a' b b' u g h. (way_of_edge ((g :+ h) :* ((a'.ex :- a.ex) :* (b'.ex :- b.ex))) (g :* ((u.ex :- a.ex) :* (b'.ex :- b.ex))) a.ey a'.ey
            := way_of_edge ((g :+ h) :* ((a'.ex :- a.ex) :* (b'.ex :- b.ex))) ((h :* (a.ex :- b.ex) :+ g :* (u.ex :- b.ex)) :* (a'.ex :- a.ex)) b.ey b'.ey) ⇐
            (hyp (neg (g :* (b'.ex :- b.ex))) (turn_of_edge a a' u) (lit (pos 0)) ∷ hyp (h :* (a'.ex :- a.ex)) (turn_of_edge b b' a) (lit (pos 0)) ∷ hyp (g :* (a'.ex :- a.ex)) (turn_of_edge b b' u) (lit (pos 0)) ∷ [])) tt

    -- and that place is no end of a
    across : Meet a a' b b'
    unfolding between
    across = record { place = between; no_vertex = λ v p q k. apart v p k.0 }
      where
        parts : (v a a' B u g h : ℤ) → ((g +ℤ h) *ℤ ((a' -ℤ a) *ℤ B)) *ℤ v ≡ way ((g +ℤ h) *ℤ ((a' -ℤ a) *ℤ B)) (g *ℤ ((u -ℤ a) *ℤ B)) a a' → ((a' -ℤ a) *ℤ B) *ℤ (h *ℤ (v -ℤ a) +ℤ g *ℤ (v -ℤ u)) ≡ pos 0
        parts = follows (num ∷ num ∷ num ∷ num ∷ num ∷ num ∷ num ∷ [])
            (λ v a a' B u g h. (((a' :- a) :* B) :* (h :* (v :- a) :+ g :* (v :- u)) := lit (pos 0)) ⇐
            (hyp (lit (pos 1)) (((g :+ h) :* ((a' :- a) :* B)) :* v) (way_of_edge ((g :+ h) :* ((a' :- a) :* B)) (g :* ((u :- a) :* B)) a a') ∷ [])) tt

        at_start : (v a u g h : ℤ) → v ≡ a → h *ℤ (v -ℤ a) +ℤ g *ℤ (v -ℤ u) ≡ pos 0 → g *ℤ (u -ℤ a) ≡ pos 0
        at_start = follows (num ∷ num ∷ num ∷ num ∷ num ∷ [])
            (λ v a u g h. (g :* (u :- a) := lit (pos 0)) ⇐ (hyp (g :+ h) v a ∷ hyp (lit (negsuc 0)) (h :* (v :- a) :+ g :* (v :- u)) (lit (pos 0)) ∷ [])) tt

        at_stop : (v a a' u g h : ℤ) → v ≡ a' → h *ℤ (v -ℤ a) +ℤ g *ℤ (v -ℤ u) ≡ pos 0 → h *ℤ (a' -ℤ a) +ℤ g *ℤ (a' -ℤ u) ≡ pos 0
        at_stop = follows (num ∷ num ∷ num ∷ num ∷ num ∷ num ∷ [])
            (λ v a a' u g h. (h :* (a' :- a) :+ g :* (a' :- u) := lit (pos 0)) ⇐ (hyp (neg (g :+ h)) v a' ∷ hyp (lit (pos 1)) (h :* (v :- a) :+ g :* (v :- u)) (lit (pos 0)) ∷ [])) tt

        off : (v : Point) → Ends v a a' → h *ℤ (v.x -ℤ a.x) +ℤ g *ℤ (v.x -ℤ u.x) ≡ pos 0 → ⊥
        off v (inl e) z =
            let w = at_start v.x a.x u.x g h (ap (λ (p : Point). p.x) e) z in
            let k = mul_pos g> (gap_pos a.x u.x lu) in
            omega (arith, ints)
        off v (inr e) z =
            let w = at_stop v.x a.x a'.x u.x g h (ap (λ (p : Point). p.x) e) z in
            let k = mul_pos h> A> in
            let l = mul_nonneg (<ℤ-le g>) (gap_le u.x a'.x ua) in
            omega (arith, ints)

        apart : (v : Point) → Ends v a a' → D *ℤ v.x ≡ way D S a.x a'.x → ⊥
        apart v p k =
            both (no_zero (A *ℤ B) _ (parts v.x a.x a'.x B u.x g h k))
            (λ z. (let w = AB> in omega (arith, ints)))
            (off v p)

  -- halfway and a third of the way are two places
  across_twice : Overlap a a' b b'
  unfolding between across
  across_twice = record { first = across (pos 1) (pos 1) one> one>; second = across (pos 1) (pos 2) one> two>; differ = λ k. two_places k.0 }
    where
      one> : pos 0 <ℤ pos 1
      one> = omega (arith, ints)

      two> : pos 0 <ℤ pos 2
      two> = omega (arith, ints)

      gap : (a a' B u : ℤ)
          → ((pos 1 +ℤ pos 2) *ℤ ((a' -ℤ a) *ℤ B)) *ℤ way ((pos 1 +ℤ pos 1) *ℤ ((a' -ℤ a) *ℤ B)) (pos 1 *ℤ ((u -ℤ a) *ℤ B)) a a'
          ≡ ((pos 1 +ℤ pos 1) *ℤ ((a' -ℤ a) *ℤ B)) *ℤ way ((pos 1 +ℤ pos 2) *ℤ ((a' -ℤ a) *ℤ B)) (pos 1 *ℤ ((u -ℤ a) *ℤ B)) a a' → ((a' -ℤ a) *ℤ B) *ℤ (((a' -ℤ a) *ℤ B) *ℤ (u -ℤ a)) ≡ pos 0
      gap = follows (num ∷ num ∷ num ∷ num ∷ [])
          (λ a a' B u. (((a' :- a) :* B) :* (((a' :- a) :* B) :* (u :- a)) := lit (pos 0)) ⇐
          (hyp (lit (pos 1)) (((lit (pos 1) :+ lit (pos 2)) :* ((a' :- a) :* B)) :* way_of_edge ((lit (pos 1) :+ lit (pos 1)) :* ((a' :- a) :* B)) (lit (pos 1) :* ((u :- a) :* B)) a a')
          (((lit (pos 1) :+ lit (pos 1)) :* ((a' :- a) :* B)) :* way_of_edge ((lit (pos 1) :+ lit (pos 2)) :* ((a' :- a) :* B)) (lit (pos 1) :* ((u :- a) :* B)) a a') ∷ [])) tt

      two_places : ((pos 1 +ℤ pos 2) *ℤ (A *ℤ B)) *ℤ way ((pos 1 +ℤ pos 1) *ℤ (A *ℤ B)) (pos 1 *ℤ ((u.x -ℤ a.x) *ℤ B)) a.x a'.x
          ≡ ((pos 1 +ℤ pos 1) *ℤ (A *ℤ B)) *ℤ way ((pos 1 +ℤ pos 2) *ℤ (A *ℤ B)) (pos 1 *ℤ ((u.x -ℤ a.x) *ℤ B)) a.x a'.x → ⊥
      two_places k =
          let z = gap a.x a'.x B u.x k in
          let w = mul_pos AB> (mul_pos AB> (gap_pos a.x u.x lu)) in
          omega (arith, ints)

-- b ends before a begins: they meet nowhere but in a shared end
module _ (a a' b b' : Point) (la : a.x <ℤ a'.x) (lb : b.x <ℤ b'.x) (le : b'.x ≤ℤ a.x) (z : turn a a' b' ≡ pos 0) where
  touch : Meet a a' b b' → ⊥
  touch m =
      let d = m.place.d in
      let s = m.place.s in
      let t = m.place.t in
      let p = mul_nonneg (<ℤ-le m.place.d>) (gap_le b'.x a.x le) in
      let q = mul_nonneg m.place.s≥ (<ℤ-le (gap_pos a.x a'.x la)) in
      let o = mul_nonneg (gap_le t d m.place.t≤) (<ℤ-le (gap_pos b.x b'.x lb)) in
      let e = sum d s t a.x a'.x b.x b'.x m.place.at_x in
      let e₁ : d *ℤ (a.x -ℤ b'.x) ≡ pos 0 = omega (arith, ints) in
      let e₂ : s *ℤ (a'.x -ℤ a.x) ≡ pos 0 = omega (arith, ints) in
      both (no_zero d (a.x -ℤ b'.x) e₁) (λ k. let f = m.place.d> in omega (arith, ints))
      (λ k. both (no_zero s (a'.x -ℤ a.x) e₂)
      (λ j. let ex = sub_zero a.x b'.x k in
      m.no_vertex a (inl refl) (inr (point_eq a b' ex (same_y a a' b' la z ex))) (start d s a.x a'.x j, start d s a.y a'.y j))
      (λ j. omega (arith, ints)))
    where
      sum : (d s t a a' b b' : ℤ) → way d s a a' ≡ way d t b b' → d *ℤ (a -ℤ b') +ℤ (s *ℤ (a' -ℤ a) +ℤ (d -ℤ t) *ℤ (b' -ℤ b)) ≡ pos 0
      sum = follows (num ∷ num ∷ num ∷ num ∷ num ∷ num ∷ num ∷ [])
          (λ d s t a a' b b'. (d :* (a :- b') :+ (s :* (a' :- a) :+ (d :- t) :* (b' :- b)) := lit (pos 0)) ⇐ (hyp (lit (pos 1)) (way_of_edge d s a a') (way_of_edge d t b b') ∷ [])) tt

      start : (d s a a' : ℤ) → s ≡ pos 0 → d *ℤ a ≡ way d s a a'
      start = follows (num ∷ num ∷ num ∷ num ∷ []) (λ d s a a'. (d :* a := way_of_edge d s a a') ⇐ (hyp (neg (a' :- a)) s (lit (pos 0)) ∷ [])) tt

-- ---- on one line, each segment's lesser end first
abbrev LeP : Point → Point → Type 0
LeP a b = (a.x <ℤ b.x) ⊎ ((a.x ≡ b.x) × (a.y ≤ℤ b.y))

lt_LeP : (a b : Point) → lt_point a b ≡ true → LeP a b
lt_LeP a b h = both (below_is a b h) (λ g. inl g) (λ g. inr (g.0, <ℤ-le g.1))

x_le : (p q : Point) → LeP p q → p.x ≤ℤ q.x
x_le p q h = both h <ℤ-le (λ g. (let e = g.0 in omega (arith, ints)))

y_le : (p q : Point) → LeP p q → p.x ≡ q.x → p.y ≤ℤ q.y
y_le p q h e = both h (λ g. absurd (omega (arith, ints))) (λ g. g.1)

module _ (a a' b b' : Point) (sa : lt_point a a' ≡ true) (sb : lt_point b b' ≡ true) (on : OnLine a a' b b') where
  -- the line is not upright, or it is
  lean : ((a.x <ℤ a'.x) × (b.x <ℤ b'.x)) ⊎ ((a.y <ℤ a'.y) × (b.y <ℤ b'.y) × (a.x ≡ a'.x))
  lean =
      both (below_is a a' sa)
      (λ h. both (below_is b b' sb)
      (λ g. inl (h, g))
      (λ g. absurd (let e = same_x b b' a g.0 g.1 on.r0 in let e' = same_x b b' a' g.0 g.1 on.s0 in omega (arith, ints))))
      (λ h. let e = same_x a a' b h.0 h.1 on.p0 in
      let e' = same_x a a' b' h.0 h.1 on.q0 in
      both (below_is b b' sb) (λ g. absurd (omega (arith, ints))) (λ g. inr (h.1, g.1, h.0)))

  module _ (ba : LeP b a) where
    -- u is the lesser of the greater ends
    overlap : (u : Point) → LeP u a' → LeP u b' → turn a a' u ≡ pos 0 → turn b b' u ≡ pos 0 → lt_point a u ≡ true → Overlap a a' b b'
    overlap u ua ub zu zb lu =
        both lean
        (λ l. across_twice a a' b b' u l.0 l.1
        (both (below_is a u lu) (λ g. g) (λ g. absurd (let e = same_y a a' u l.0 zu g.0 in let f = g.1 in omega (arith, ints))))
        (x_le b a ba) (x_le u a' ua) (x_le u b' ub) zu on.r0 zb)
        (λ l. let eu = same_x a a' u l.2 l.0 zu in
        let eb = same_x a a' b l.2 l.0 on.p0 in
        let eb' = same_x a a' b' l.2 l.0 on.q0 in
        let ea = l.2 in
        overlap_mir a a' b b'
        (across_twice (mir a) (mir a') (mir b) (mir b') (mir u) l.0 l.1
        (both (below_is a u lu) (λ g. absurd (omega (arith, ints))) (λ g. g.1))
        (y_le b a ba eb) (y_le u a' ua (omega (arith, ints))) (y_le u b' ub (omega (arith, ints))) (turn_mir a a' u zu) (turn_mir b b' a on.r0) (turn_mir b b' u zb)))

    beyond : LeP b' a → Meet a a' b b' → ⊥
    beyond le m =
        both lean
        (λ l. touch a a' b b' l.0 l.1 (x_le b' a le) on.q0 m)
        (λ l. touch (mir a) (mir a') (mir b) (mir b') l.0 l.1 (y_le b' a le (same_x a a' b' l.2 l.0 on.q0)) (turn_mir a a' b' on.q0) (meet_mir (mir a) (mir a') (mir b) (mir b') m))

    lesser : meets a a' b b' ≡ lt_point a (min_point a' b') → (meets a a' b b' ≡ true → Overlap a a' b b') × (Meet a a' b b' → meets a a' b b' ≡ true)
    lesser e =
        both (true_or_false (lt_point a' b'))
        (λ t. let f : meets a a' b b' ≡ lt_point a a' = rw t at e in
        (λ h. overlap a' (inr (refl, omega (arith, ints))) (lt_LeP a' b' t) (turn_second a a') on.s0 sa, λ m. f ∙ sa))
        (λ t. let f : meets a a' b b' ≡ lt_point a b' = rw t at e in (
          λ h. overlap b' (not_below a' b' t) (inr (refl, omega (arith, ints))) on.q0 (turn_second b b') (sym f ∙ h),
          λ m. both (true_or_false (lt_point a b')) (λ g. f ∙ g) (λ g. absurd (beyond (not_below a b' g) m)),
        ))

-- What the test tells: where they meet, and on one line that they do so in two places.
record Told (a a' b b' : Point) : Type 0 where
  decides : (meets a a' b b' ≡ true) ↔ Meet a a' b b'
  twice : OnLine a a' b b' → meets a a' b b' ≡ true → Overlap a a' b b'

module _ (a a' b b' : Point) (na : a ≢ a') (nb : b ≢ b') where
  on_line : parallel a a' b b' ≡ true → OnLine a a' b b'
  on_line f =
      let p = zero_yes (turn a a' b) (and_left (collinear a a' b) _ f) in
      let q = zero_yes (turn a a' b') (and_right (collinear a a' b) _ f) in
      record { p0 = p; q0 = q; r0 = three a a' b b' a na p q (turn_first a a'); s0 = three a a' b b' a' na p q (turn_second a a') }

  -- each lesser end first, and b's not after a's
  in_order : lt_point a a' ≡ true → lt_point b b' ≡ true → lt_point a b ≡ false → Told a a' b b'
  in_order sa sb ba =
      both (true_or_false (parallel a a' b b'))
      (λ f. let l = lesser a a' b b' sa sb (on_line f) (not_below a b ba) (rw (f, sa, sb, ba)) in
      record { decides = (λ h. (l.0 h).first, l.1); twice = λ o h. l.0 h })
      (λ f. record { decides = (crossed_meet a a' b b' f, meet_crossed a a' b b' f); twice = λ o h. absurd (both_on a a' b b' f o.p0 o.q0) })

-- the same line, by the segments in the other order, or with one of them turned
line_sym : {a a' b b' : Point} → OnLine a a' b b' → OnLine b b' a a'
line_sym o = record { p0 = o.r0; q0 = o.s0; r0 = o.p0; s0 = o.q0 }

line_turned : (a a' b b' : Point) → OnLine a a' b b' → OnLine a' a b b'
line_turned a a' b b' o = record { p0 = turned a a' b o.p0; q0 = turned a a' b' o.q0; r0 = o.s0; s0 = o.r0 }
  where
    turned : (a a' b : Point) → turn a a' b ≡ pos 0 → turn a' a b ≡ pos 0
    turned a a' b h = zero_yes (turn a' a b) (line_rev a a' b ∙ zero_is (turn a a' b) h)

told_sym : (a a' b b' : Point) → a ≢ a' → b ≢ b' → Told b b' a a' → Told a a' b b'
told_sym a a' b b' na nb i =
    let e = meets_swap a a' b b' na nb in
    record { decides = (λ h. meet_sym (i.decides.0 (e ∙ h)), λ m. sym e ∙ i.decides.1 (meet_sym m)); twice = λ o h. overlap_sym (i.twice (line_sym o) (e ∙ h)) }

told_rev : (a a' b b' : Point) → Told a' a b b' → Told a a' b b'
told_rev a a' b b' i =
    let e = meets_rev a a' b b' in
    record { decides = (λ h. meet_rev (i.decides.0 (e ∙ h)), λ m. sym e ∙ i.decides.1 (meet_rev m)); twice = λ o h. overlap_rev (i.twice (line_turned a a' b b' o) (e ∙ h)) }

told_rev₂ : (a a' b b' : Point) → Told a a' b' b → Told a a' b b'
told_rev₂ a a' b b' i =
    let e = meets_rev₂ a a' b b' in
    record { decides = (λ h. meet_rev₂ (i.decides.0 (e ∙ h)), λ m. sym e ∙ i.decides.1 (meet_rev₂ m)); twice = λ o h. overlap_rev₂ (i.twice (line_sym (line_turned b b' a a' (line_sym o))) (e ∙ h)) }

any_order : (a a' b b' : Point) → a ≢ a' → b ≢ b' → lt_point a a' ≡ true → lt_point b b' ≡ true → Told a a' b b'
any_order a a' b b' na nb sa sb =
    both (true_or_false (lt_point a b)) (λ t. told_sym a a' b b' na nb (in_order b b' a a' nb na sb sa (lt_point_flip a b t))) (in_order a a' b b' na nb sa sb)

second_way : (a a' b b' : Point) → a ≢ a' → b ≢ b' → lt_point a a' ≡ true → Told a a' b b'
second_way a a' b b' na nb sa =
    both (lt_point_total b b' nb) (any_order a a' b b' na nb sa) (λ t. told_rev₂ a a' b b' (any_order a a' b' b na (λ z. nb (sym z)) sa t))

told : (a a' b b' : Point) → a ≢ a' → b ≢ b' → Told a a' b b'
told a a' b b' na nb =
    both (lt_point_total a a' na) (second_way a a' b b' na nb) (λ t. told_rev a a' b b' (second_way a' a b b' (λ z. na (sym z)) nb t))

-- THE MEETING: the test decides document 01's words
pub meets_decides : (a a' b b' : Point) → a ≢ a' → b ≢ b' → (meets a a' b b' ≡ true) ↔ Meet a a' b b'
meets_decides a a' b b' na nb = (told a a' b b' na nb).decides

-- and segments that meet on one line do so in two different places
pub meets_twice : (a a' b b' : Point) → a ≢ a' → b ≢ b' → parallel a a' b b' ≡ true → meets a a' b b' ≡ true → Overlap a a' b b'
meets_twice a a' b b' na nb f = (told a a' b b' na nb).twice (on_line a a' b b' na nb f)
