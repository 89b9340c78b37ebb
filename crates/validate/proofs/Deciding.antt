-- Contact decides whether some two edges of the ring meet, and names the first two that do: at each position it asks for the least behind it whose edge meets
-- the one there, and of any two edges one is behind the other.
use mathlib.Core.Path.{◌≡◌, refl, sym, ◌∙◌, subst}
use mathlib.Core.Bool.{true, false}
use mathlib.Core.List.{List}
use mathlib.Core.Logic.{inl, inr, ◌≢◌, ◌↔◌}
use Prim.Native.Nat.{ℕ, zero, suc, ◌+◌, ◌-◌, ◌≤◌, ◌<◌}
use native.Mathlib.Omega.{arith}
use Rattle.std.proofs.Math.Option.{Option, none, some}
use Rattle.algebra.specs.Cases.{both, le_cases, eq_cases, never}
use Rattle.algebra.specs.Ranges.{IsLeast, least_is}
use Rattle.geometry.specs.Plane.{Point}
use Rattle.geometry.specs.Segment.{Meet}
use Rattle.geometry.proofs.Meeting.{meets_decides}
use Rattle.geometry.proofs.Symmetry.{meets_swap}
use Rattle.polygon.specs.Ring.{next, at, IsRing}
use Rattle.machine.specs.Board.{pt_at, Distinct}
use Rattle.machine.proofs.EdgesMeet.{meets_ends}
use Rattle.validate.specs.Drawn.{Check, passed, refused, meeting, meeting_or, meet_at, first_behind, contact_from, contact}
use Rattle.validate.specs.Meetings.{Sooner, EdgesAt, SomeMeet, FirstMeeting}
use Rattle.validate.specs.HalfOpen.{SomeShare}
use Rattle.validate.proofs.HalfEdges.{ends_differ, half_open_rejects}

-- ---- the search
module _ (n : ℕ) (pt : ℕ → Point) (r : List ℕ) where
  -- what is found from position i on
  abbrev pub Found : ℕ → Check → Type 0
  Found i passed = (a b : ℕ) → i ≤ a → a < b → b < n → meet_at n pt r a b ≡ false
  Found i (refused k) = ⊥
  Found i (meeting a b) = (i ≤ a) × (a < b) × (b < n) × (meet_at n pt r a b ≡ true) × ((c d : ℕ) → i ≤ c → c < d → d < n → Sooner c d a b → meet_at n pt r c d ≡ false)

  found_behind : (i : ℕ) → i < n → (o : Option ℕ) → IsLeast (suc i) (n - suc i) (meet_at n pt r i) o → (c : Check) → Found (suc i) c → Found i (meeting_or i o c)
  found_behind i l (some j) (a, b, t, h) c f = (omega arith, omega arith, omega (arith, b), t, λ c d ic cd dn s. both s (λ z. absurd (omega arith)) (λ z. rw z.0 (h d (omega (arith, cd, z.0)) z.1)))
  found_behind i l none h passed f = λ a b ia ab bn. both (eq_cases a i) (λ z. rw z.0 (h b (omega (arith, ab, z.0)) (omega arith))) (λ z. f a b (omega (arith, ia, z.0)) ab bn)
  found_behind i l none h (refused k) f = f
  found_behind i l none h (meeting a b) (ia, ab, bn, t, f) =
      (omega arith, ab, bn, t, λ c d ic cd dn s. both (eq_cases c i) (λ z. rw z.0 (h d (omega (arith, cd, z.0)) (omega arith))) (λ z. f c d (omega (arith, ic, z.0)) cd dn s))

  found_from : (i k : ℕ) → i + k ≡ n → Found i (contact_from n pt r i k)
  found_from i zero e = λ a b ia ab bn. absurd (omega arith)
  found_from i (suc k) e =
      found_behind i (omega arith) (first_behind n pt r i) (least_is (suc i) (n - suc i) (meet_at n pt r i)) (contact_from n pt r (suc i) k) (found_from (suc i) k (omega (arith, e)))

  pub found : Found 0 (contact n pt r)
  found = found_from 0 n (omega arith)

  -- Contact refuses by no number.
  pub contact_never_refused : (k : ℕ) → contact n pt r ≡ refused k → ⊥
  contact_never_refused k e = subst (Found 0) e found

-- ---- what the test of two edges says
module _ (n : ℕ) (pt : ℕ → Point) (r : List ℕ) (three : 3 ≤ n) (distinct : Distinct n pt) (ring : IsRing n r) where
  abbrev P : ℕ → Point
  P = pt_at pt r

  pub meet_at_is : (i j : ℕ) → i < n → j < n → (meet_at n pt r i j ≡ true) ↔ EdgesAt n pt r Meet i j
  meet_at_is i j li lj =
      let d = meets_decides (P i) (P (next n i)) (P j) (P (next n j)) (ends_differ n pt r three distinct ring i li) (ends_differ n pt r three distinct ring j lj) in
      let e = meets_ends pt (at r i) (at r (next n i)) (at r j) (at r (next n j)) in
      (λ h. d.0 (sym e ∙ h), λ m. e ∙ d.1 m)

  pub meet_at_swap : (i j : ℕ) → i < n → j < n → meet_at n pt r i j ≡ meet_at n pt r j i
  meet_at_swap i j li lj =
      meets_ends pt (at r i) (at r (next n i)) (at r j) (at r (next n j))
      ∙ meets_swap (P j) (P (next n j)) (P i) (P (next n i)) (ends_differ n pt r three distinct ring j lj) (ends_differ n pt r three distinct ring i li)
      ∙ sym (meets_ends pt (at r j) (at r (next n j)) (at r i) (at r (next n i)))

  -- ---- what is found
  none_meets : (c : Check) → Found n pt r 0 c → c ≡ passed → ¬ (SomeMeet n pt r)
  none_meets c f e m =
      let f = subst (Found n pt r 0) e f in
      let t = (meet_at_is m.i m.j m.first_in m.second_in).1 m.related in
      both (le_cases (suc m.i) m.j)
      (λ g. never (meet_at n pt r m.i m.j) t (f m.i m.j (omega arith) g.0 m.second_in))
      (λ g. both (le_cases (suc m.j) m.i)
      (λ h. never (meet_at n pt r m.i m.j) t (meet_at_swap m.i m.j m.first_in m.second_in ∙ f m.j m.i (omega arith) h.0 m.first_in))
      (λ h. m.differ (omega arith)))

  first_is : (i j : ℕ) → Found n pt r 0 (meeting i j) → FirstMeeting n pt r i j
  first_is i j (z, ij, jn, t, f) = record {
    in_order = ij;
    within = jn;
    meet = (meet_at_is i j (omega arith) jn).0 t;
    none_before = λ a b ab bn s m. never (meet_at n pt r a b) ((meet_at_is a b (omega arith) bn).1 m) (f a b (omega arith) ab bn s);
  }

  some_meets : (i j : ℕ) → FirstMeeting n pt r i j → SomeMeet n pt r
  some_meets i j m = record { i = i; j = j; first_in = omega (arith, m.in_order, m.within); second_in = m.within; differ = differ i j m.in_order; related = m.meet }
    where
      differ : (i j : ℕ) → i < j → i ≢ j
      differ i j l e = omega arith

  passes : (c : Check) → Found n pt r 0 c → ¬ (SomeMeet n pt r) → c ≡ passed
  passes passed f apart = refl
  passes (refused k) f apart = absurd f
  passes (meeting i j) f apart = absurd (apart (some_meets i j (first_is i j f)))

  -- It passes exactly the rings no two edges of which meet,
  pub contact_decides : (contact n pt r ≡ passed) ↔ (¬ (SomeMeet n pt r))
  contact_decides = (none_meets (contact n pt r) (found n pt r), passes (contact n pt r) (found n pt r))

  -- and these are the rings no two half-open edges of which have a place in common.
  pub contact_half_open : (contact n pt r ≡ passed) ↔ (¬ (SomeShare n pt r))
  contact_half_open =
      let h = half_open_rejects n pt r three distinct ring in
      (λ t s. contact_decides.0 t (h.0 s), λ apart. contact_decides.1 (λ m. apart (h.1 m)))

  -- there is one first pair
  one_first : (i j a b : ℕ) → FirstMeeting n pt r i j → FirstMeeting n pt r a b → (a ≡ i) × (b ≡ j)
  one_first i j a b p q =
      both (le_cases (suc a) i)
      (λ h. absurd (p.none_before a b q.in_order q.within (inl h.0) q.meet))
      (λ h. both (le_cases (suc i) a)
      (λ g. absurd (q.none_before i j p.in_order p.within (inl g.0) p.meet))
      (λ g. let e : a ≡ i = omega (arith, h.0, g.0) in
      both (le_cases (suc b) j)
      (λ k. absurd (p.none_before a b q.in_order q.within (inr (e, k.0)) q.meet))
      (λ k. both (le_cases (suc j) b)
      (λ m. absurd (q.none_before i j p.in_order p.within (inr (sym e, m.0)) p.meet))
      (λ m. (e, omega (arith, k.0, m.0))))))

  finds : (i j : ℕ) → FirstMeeting n pt r i j → (c : Check) → Found n pt r 0 c → c ≡ meeting i j
  finds i j m passed f = absurd (none_meets passed f refl (some_meets i j m))
  finds i j m (refused k) f = absurd f
  finds i j m (meeting a b) f = let e = one_first i j a b m (first_is a b f) in λ k. meeting (e.0 k) (e.1 k)

  -- The pair that it finds is the first that meets.
  pub contact_first : (i j : ℕ) → (contact n pt r ≡ meeting i j) ↔ FirstMeeting n pt r i j
  contact_first i j = (λ e. first_is i j (subst (Found n pt r 0) e (found n pt r)), λ m. finds i j m (contact n pt r) (found n pt r))
