-- The kind of contact: the test decides each of the three, for all segments with different ends; two segments have one kind; and it does not depend on
-- their order or on that of their ends.
use mathlib.Core.Path.{◌≡◌, refl, sym, ◌∙◌, ap, subst}
use mathlib.Core.Bool.{Bool, true, false, ◌&&◌, ◌||◌, cond, or_comm, and_comm, or-true}
use mathlib.Core.List.{[], ◌∷◌}
use mathlib.Core.Logic.{inl, inr, ◌≢◌, ◌↔◌}
use Prim.Native.Nat.{ℕ}
use native.Mathlib.Omega.{arith}
use lib.IntN.{ℤ, pos, ◌-ℤ◌, ◌+ℤ◌, ◌*ℤ◌}
use borrow.Author.Differences.{ints}
use Rattle.std.specs.Prelude.{Option, Some, None}
use Rattle.std.specs.Option.{is_some}
use Rattle.std.proofs.lemmas.Option.{none-some, same_Some}
use Rattle.algebra.specs.Polynomials.{lit, ◌:+◌, ◌:-◌, ◌:*◌, neg, hyp, sub_zero}
use Rattle.algebra.specs.Identities.{follows, num, ◌:=◌, ◌⇐◌}
use Rattle.algebra.specs.Signs.{no_zero}
use Rattle.algebra.specs.Cases.{both, true_or_false, never, or_cases, and_left, and_right}
use Rattle.geometry.specs.Plane.{Point, turn, eq_point, lt_point, min_point, max_point, collinear}
use Rattle.geometry.specs.Segment.{End, exclusive, inclusive, CommonPlace, way, Ends, parallel, meets}
use Rattle.geometry.specs.Contact.{Kind, none, crossing, overlap, SamePlace, start_of, stop_of, OpenIf, Span, HasKind, ends_both, mark_at, overlap_of, kind, some_contact}
use Rattle.geometry.specs.Answers.{kind_of, without_ends}
use Rattle.geometry.specs.declared.line_segment.ILineSegment.{ILineSegment}
use Rattle.geometry.specs.declared.line_segment.ILineSegment.TheVariants.{Crossing as CrossingSegments, Overlap as OverlapSegments}
use Rattle.geometry.specs.declared.line_segment.ContactKind.TheVariants.{Crossing, Overlap}
use Rattle.geometry.proofs.Points.{eq_point_same, eq_point_true, zero_is}
use Rattle.geometry.proofs.Places.{way_of_edge, mixed}
use Rattle.geometry.proofs.Meeting.{meets_decides, meets_twice}
use Rattle.geometry.proofs.Symmetry.{min_point_comm, max_point_comm, line_rev, line_swap, meets_rev, meets_rev₂, meets_swap}

-- ---- not on one line: all common places are one
module _ {a a' b b' : Point} (nf : parallel a a' b b' ≡ false) (m k : CommonPlace a a' b b') where
  -- they are the same part of the way along the second segment
  same_part : k.d *ℤ m.t -ℤ m.d *ℤ k.t ≡ pos 0
  same_part =
      both (no_zero (turn a a' b' -ℤ turn a a' b) _ (apart m.d m.t k.d k.t (turn a a' b) (turn a a' b') (mixed m) (mixed k)))
      (λ e. both (no_zero m.d (turn a a' b) (level m.d m.t (turn a a' b) (turn a a' b') (mixed m) e))
      (λ z. absurd (let p = m.d> in omega (arith, ints)))
      (λ z. never (parallel a a' b b') (rw (zero_is (turn a a' b) z, zero_is (turn a a' b') (sub_zero (turn a a' b') (turn a a' b) e ∙ z))) nf))
      (λ e. e)
    where
      apart : (d t e u p q : ℤ) → (d -ℤ t) *ℤ p +ℤ t *ℤ q ≡ pos 0 → (e -ℤ u) *ℤ p +ℤ u *ℤ q ≡ pos 0 → (q -ℤ p) *ℤ (e *ℤ t -ℤ d *ℤ u) ≡ pos 0
      apart = follows (num ∷ num ∷ num ∷ num ∷ num ∷ num ∷ [])
          (λ d t e u p q. ((q :- p) :* (e :* t :- d :* u) := lit (pos 0)) ⇐ (hyp e ((d :- t) :* p :+ t :* q) (lit (pos 0)) ∷ hyp (neg d) ((e :- u) :* p :+ u :* q) (lit (pos 0)) ∷ [])) tt

      level : (d t p q : ℤ) → (d -ℤ t) *ℤ p +ℤ t *ℤ q ≡ pos 0 → q -ℤ p ≡ pos 0 → d *ℤ p ≡ pos 0
      level = follows (num ∷ num ∷ num ∷ num ∷ [])
          (λ d t p q. (d :* p := lit (pos 0)) ⇐ (hyp (lit (pos 1)) ((d :- t) :* p :+ t :* q) (lit (pos 0)) ∷ hyp (neg t) (q :- p) (lit (pos 0)) ∷ [])) tt

  one_place : SamePlace m k
  one_place = (
    same m.d m.s m.t k.d k.s k.t a.x a'.x b.x b'.x m.at_x k.at_x same_part,
    same m.d m.s m.t k.d k.s k.t a.y a'.y b.y b'.y m.at_y k.at_y same_part,
  )
    where
      same : (d s t e r u a a' b b' : ℤ) → way d s a a' ≡ way d t b b' → way e r a a' ≡ way e u b b' → e *ℤ t -ℤ d *ℤ u ≡ pos 0 → e *ℤ way d s a a' ≡ d *ℤ way e r a a'
      same = follows (num ∷ num ∷ num ∷ num ∷ num ∷ num ∷ num ∷ num ∷ num ∷ num ∷ [])
          (λ d s t e r u a a' b b'. (e :* way_of_edge d s a a' := d :* way_of_edge e r a a') ⇐
          (hyp e (way_of_edge d s a a') (way_of_edge d t b b') ∷ hyp (neg d) (way_of_edge e r a a') (way_of_edge e u b b') ∷ hyp (b' :- b) (e :* t :- d :* u) (lit (pos 0)) ∷ [])) tt

-- ---- the marks
ends_is : (v a a' : Point) → (eq_point v a || eq_point v a') ≡ true → Ends v a a'
ends_is v a a' h = both (or_cases (eq_point v a) (eq_point v a') h) (λ e. inl (eq_point_true v a e)) (λ e. inr (eq_point_true v a' e))

is_end : (v a a' : Point) → Ends v a a' → (eq_point v a || eq_point v a') ≡ true
is_end v a a' (inl e) = rw (eq_point_same v a e)
is_end v a a' (inr e) = rw (eq_point_same v a' e) (or-true (eq_point v a))

-- an open mark and a closed one are two
marks_differ : {X : Type 0} → inclusive ≡ exclusive → X
marks_differ e = let z : ◌≡◌ {A = ℕ} 0 1 = cc in absurd (omega arith)

open_if : (a a' b b' v : Point) → OpenIf a a' b b' v (mark_at a a' b b' v)
open_if a a' b b' v = (there (ends_both a a' b b' v) refl, λ h. rw (is_end v a a' h.0, is_end v b b' h.1))
  where
    there : (t : Bool) → ends_both a a' b b' v ≡ t → cond t exclusive inclusive ≡ exclusive → Ends v a a' × Ends v b b'
    there true e h = (ends_is v a a' (and_left (eq_point v a || eq_point v a') (eq_point v b || eq_point v b') e), ends_is v b b' (and_right (eq_point v a || eq_point v a') (eq_point v b || eq_point v b') e))
    there false e h = marks_differ h

-- a mark is settled by when it is open
one_mark : (a a' b b' v : Point) (m k : End) → OpenIf a a' b b' v m → OpenIf a a' b b' v k → m ≡ k
one_mark a a' b b' v exclusive k f g = sym (g.1 (f.0 refl))
one_mark a a' b b' v inclusive exclusive f g = f.1 (g.0 refl)
one_mark a a' b b' v inclusive inclusive f g = refl

module _ (a a' b b' : Point) where
  span_is : Span a a' b b' (start_of a a' b b') (mark_at a a' b b' (start_of a a' b b')) (stop_of a a' b b') (mark_at a a' b b' (stop_of a a' b b'))
  span_is = record { start = refl; stop = refl; start_open = open_if a a' b b' (start_of a a' b b'); stop_open = open_if a a' b b' (stop_of a a' b b') }

  -- ---- what the test says: none where they do not meet, a crossing where they meet and are not on one line, else an overlap
  pub kind_none : meets a a' b b' ≡ false → kind a a' b b' ≡ none
  unfolding kind
  kind_none e = rw e

  pub kind_crossing : parallel a a' b b' ≡ false → meets a a' b b' ≡ true → kind a a' b b' ≡ crossing
  unfolding kind
  kind_crossing f e = rw (e, f)

  pub kind_overlap : parallel a a' b b' ≡ true → meets a a' b b' ≡ true → kind a a' b b' ≡ overlap_of a a' b b'
  unfolding kind
  kind_overlap f e = rw (e, f)

  by_cases : (P : Kind → Type 0) → (meets a a' b b' ≡ false → P none) → (parallel a a' b b' ≡ false → meets a a' b b' ≡ true → P crossing)
      → (parallel a a' b b' ≡ true → meets a a' b b' ≡ true → P (overlap_of a a' b b')) → P (kind a a' b b')
  by_cases P n c o =
      both (true_or_false (meets a a' b b'))
      (λ e. both (true_or_false (parallel a a' b b')) (λ f. subst P (sym (kind_overlap f e)) (o f e)) (λ f. subst P (sym (kind_crossing f e)) (c f e)))
      (λ e. subst P (sym (kind_none e)) (n e))

  -- what they have in common begins before it ends
  pub start_first : parallel a a' b b' ≡ true → meets a a' b b' ≡ true → lt_point (start_of a a' b b') (stop_of a a' b b') ≡ true
  start_first f e = rw f at e

  -- they meet exactly where the kind is not none
  pub meets_is : some_contact (kind a a' b b') ≡ meets a a' b b'
  unfolding overlap_of
  meets_is = by_cases (λ k. some_contact k ≡ meets a a' b b') sym (λ f. sym) (λ f. sym)

  module _ (na : a ≢ a') (nb : b ≢ b') where
    -- the kind that the test names is one that they have
    pub has_kind : HasKind a a' b b' (kind a a' b b')
    unfolding overlap_of
    has_kind =
        let d = meets_decides a a' b b' na nb in
        by_cases (HasKind a a' b b')
        (λ e m. never (meets a a' b b') (d.1 m) e)
        (λ f e. record { meet = d.0 e; one = λ m k. one_place f m.place k.place })
        (λ f e. (meets_twice a a' b b' na nb f e, span_is))

  -- they have one kind
  pub one_kind : (k l : Kind) → HasKind a a' b b' k → HasKind a a' b b' l → k ≡ l
  one_kind none none h g = refl
  one_kind none crossing h g = absurd (h g.meet)
  one_kind none (overlap v m w k) h g = absurd (h g.0.first)
  one_kind crossing none h g = absurd (g h.meet)
  one_kind crossing crossing h g = refl
  one_kind crossing (overlap v m w k) h g = absurd (g.0.differ (h.one g.0.first g.0.second))
  one_kind (overlap v m w k) none h g = absurd (g h.0.first)
  one_kind (overlap v m w k) crossing h g = absurd (h.0.differ (g.one h.0.first h.0.second))
  one_kind (overlap v m w k) (overlap v' m' w' k') h g = λ i. overlap (start i) (first i) (stop i) (second i)
    where
      start : v ≡ v'
      start = h.1.start ∙ sym g.1.start

      stop : w ≡ w'
      stop = h.1.stop ∙ sym g.1.stop

      first : m ≡ m'
      first = one_mark a a' b b' v m m' h.1.start_open (subst (λ (p : Point). OpenIf a a' b b' p m') (sym start) g.1.start_open)

      second : k ≡ k'
      second = one_mark a a' b b' w k k' h.1.stop_open (subst (λ (p : Point). OpenIf a a' b b' p k') (sym stop) g.1.stop_open)

-- THE KIND: the test decides each of the three
pub kind_decides : (a a' b b' : Point) → a ≢ a' → b ≢ b' → (k : Kind) → (kind a a' b b' ≡ k) ↔ HasKind a a' b b' k
kind_decides a a' b b' na nb k = (λ e. subst (HasKind a a' b b') e (has_kind a a' b b' na nb), λ h. one_kind a a' b b' (kind a a' b b') k (has_kind a a' b b' na nb) h)

-- ---- a kind without its ends
-- it still tells whether it is none
pub some_is : (k : Kind) → is_some (without_ends k) ≡ some_contact k
some_is none = refl
some_is crossing = refl
some_is (overlap v m w k) = refl

pub some_of : (o : Option ILineSegment) → is_some o ≡ some_contact (kind_of o)
some_of None = refl
some_of (Some CrossingSegments) = refl
some_of (Some (OverlapSegments s)) = refl

apart : {X : Type 0} → Crossing ≡ Overlap → X
apart e = let z : ◌≡◌ {A = ℕ} 0 1 = cc in absurd (omega arith)

-- and tells the kind
module _ (a a' b b' : Point) where
  pub is_none : None ≡ without_ends (kind a a' b b') → none ≡ kind a a' b b'
  unfolding overlap_of
  is_none = by_cases a a' b b' (λ k. None ≡ without_ends k → none ≡ k)
      (λ e z. refl) (λ f e z. absurd (none-some Crossing z)) (λ f e z. absurd (none-some Overlap z))

  pub is_crossing : Some Crossing ≡ without_ends (kind a a' b b') → crossing ≡ kind a a' b b'
  unfolding overlap_of
  is_crossing = by_cases a a' b b' (λ k. Some Crossing ≡ without_ends k → crossing ≡ k)
      (λ e z. absurd (none-some Crossing (sym z))) (λ f e z. refl) (λ f e z. apart (same_Some Crossing Overlap z))

  pub is_overlap : Some Overlap ≡ without_ends (kind a a' b b') → overlap_of a a' b b' ≡ kind a a' b b'
  unfolding overlap_of
  is_overlap = by_cases a a' b b' (λ k. Some Overlap ≡ without_ends k → overlap_of a a' b b' ≡ k)
      (λ e z. absurd (none-some Overlap (sym z))) (λ f e z. apart (same_Some Crossing Overlap (sym z))) (λ f e z. refl)

-- ---- it depends on neither segment's direction, nor on their order
module _ (a a' b b' c c' d d' : Point) (meet_is : meets a a' b b' ≡ meets c c' d d') (line_is : parallel a a' b b' ≡ parallel c c' d d') (start_is : start_of a a' b b' ≡ start_of c c' d d')
    (stop_is : stop_of a a' b b' ≡ stop_of c c' d d') (ends_are : (v : Point) → ends_both a a' b b' v ≡ ends_both c c' d d' v) where
  -- an end and its mark
  marked : {v w : Point} → v ≡ w → mark_at a a' b b' v ≡ mark_at c c' d d' w
  marked {w = w} e = ap (mark_at a a' b b') e ∙ ap (λ (t : Bool). cond t exclusive inclusive) (ends_are w)

  by_parts : kind a a' b b' ≡ kind c c' d d'
  unfolding kind overlap_of
  by_parts = λ i.
      cond (meet_is i) (cond (line_is i) (overlap (start_is i) (marked start_is i) (stop_is i) (marked stop_is i)) crossing) none

module _ (a a' b b' : Point) where
  pub kind_rev : kind a' a b b' ≡ kind a a' b b'
  kind_rev = by_parts a' a b b' a a' b b' (meets_rev a a' b b') (λ i. line_rev a a' b i && line_rev a a' b' i)
      (λ i. max_point (min_point_comm a' a i) (min_point b b')) (λ i. min_point (max_point_comm a' a i) (max_point b b'))
      (λ v i. or_comm (eq_point v a') (eq_point v a) i && (eq_point v b || eq_point v b'))

  pub kind_rev₂ : kind a a' b' b ≡ kind a a' b b'
  kind_rev₂ = by_parts a a' b' b a a' b b' (meets_rev₂ a a' b b') (and_comm (collinear a a' b') (collinear a a' b))
      (λ i. max_point (min_point a a') (min_point_comm b' b i)) (λ i. min_point (max_point a a') (max_point_comm b' b i))
      (λ v i. (eq_point v a || eq_point v a') && or_comm (eq_point v b') (eq_point v b) i)

  pub kind_swap : a ≢ a' → b ≢ b' → kind b b' a a' ≡ kind a a' b b'
  kind_swap na nb = by_parts b b' a a' a a' b b' (meets_swap a a' b b' na nb) (line_swap a a' b b' na nb)
      (max_point_comm (min_point b b') (min_point a a')) (min_point_comm (max_point b b') (max_point a a'))
      (λ v. and_comm (eq_point v b || eq_point v b') (eq_point v a || eq_point v a'))
