-- What the tests of check 21 decide: it finds nothing exactly where the image is fit, and before saving, where the state can be saved.
use mathlib.Core.Path.{◌≡◌, refl, sym, ap}
use mathlib.Core.Bool.{true, false, not}
use mathlib.Core.List.{List}
use mathlib.Core.Logic.{◌⊎◌, inl, inr, ◌↔◌, ◌≢◌}
use Prim.Native.Nat.{ℕ, ◌≤◌, ◌<◌}
use native.Mathlib.Omega.{arith}
use lib.Dec.{eqb, ltb}
use lib.ListN.{length, get_or}
use borrow.Author.Tests.{ltb-true, ltb-false, lt-ltb, eqb-true, eqb-false, ne_eqb, leb-true, le-leb}
use Rattle.algebra.specs.Cases.{both, eq_cases, true_or_false, and_left, and_right, not_true}
use Rattle.algebra.specs.Counting.{one, one_le, count_p, count_at, count_find, count_zero}
use Rattle.algebra.specs.Ranges.{all_below, all_true, true_all}
use Rattle.geometry.specs.Plane.{Point}
use Rattle.index_edge.specs.Edge.{Edge, eq_edge}
use Rattle.index_edge.proofs.Edges.{eq_edge_true, eq_edge_refl}
use Rattle.polygon.specs.Ring.{IsRing}
use Rattle.intersection_set.specs.Store.{Rec, no_rec, counted}
use Rattle.intersection_set.specs.Numbered.{Ages}
use Rattle.intersection_set.proofs.Records.{is_pair, counted_is}
use Rattle.machine.specs.Board.{Board}
use Rattle.machine.specs.Machine.{fresh}
use Rattle.machine.specs.Demand3.{Pair}
use Rattle.machine.specs.Onward.{Names}
use Rattle.machine.proofs.Scans.{found, fresh_counted}
use Rattle.machine.proofs.GoodPlan.{once_edges}
use Rattle.machine.proofs.Demand3Holds.{found_pair, fresh_search}
use Rattle.resume.specs.Image.{Line, Image, image_of, slotted, placed}
use Rattle.resume.specs.AgesAside.{age_at}
use Rattle.resume.specs.Fit.{Fit, Savable}
use Rattle.resume.specs.Check.{new_age, ages_differ, ages_all, times, once_or_twice, none_else, none_missing, names_all, fits, savable}
use Rattle.resume.proofs.Renumbering.{slotted_length}
use Rattle.resume.proofs.BackAgain.{ages_below}
use Rattle.resume.proofs.Images.{at_most_one, age_twice, fit_ages, ages_fit, placed_ages, renumbered_fit}

-- ---- a pair that is counted stands somewhere
pub counted_at : (e f : Edge) (l : List Rec) → 0 < counted e f l → (k : ℕ) × (k < length l) × ((get_or l k no_rec).e0 ≡ e) × ((get_or l k no_rec).e1 ≡ f)
counted_at e f l h =
    let z : (k : ℕ) × (k < length l) × (is_pair e f (get_or l k no_rec) ≡ true) = count_find (is_pair e f) l no_rec (omega (arith, counted_is e f l)) in
    let r : Rec = get_or l z.0 no_rec in
    (z.0, z.1, sym (eq_edge_true e r.e0 (and_left (eq_edge e r.e0) _ z.2)), sym (eq_edge_true f r.e1 (and_right (eq_edge e r.e0) _ z.2)))

pub at_counted : (l : List Rec) (k : ℕ) → k < length l → 0 < times (get_or l k no_rec) l
at_counted l k h =
    let r : Rec = get_or l k no_rec in
    omega (arith, counted_is r.e0 r.e1 l, count_at (is_pair r.e0 r.e1) l k no_rec h (rw (eq_edge_refl r.e0, eq_edge_refl r.e1)))

-- ---- ages
-- no two ages are alike
pub differ_decide : (d : List Rec) → (ages_differ d ≡ true) ↔ ((a : ℕ) → count_p (λ r. eqb a r.age) d ≤ 1)
differ_decide d = (is, if)
  where
    alike : ages_differ d ≡ true → (j k : ℕ) → j < k → k < length d → age_at d j ≢ age_at d k
    alike t j k i l =
        let new = all_true k (λ j. not (eqb (age_at d j) (age_at d k))) (all_true (length d) (new_age d) t k l) j i in
        eqb-false (age_at d j) (age_at d k) (not_true (eqb (age_at d j) (age_at d k)) new)

    is : ages_differ d ≡ true → (a : ℕ) → count_p (λ r. eqb a r.age) d ≤ 1
    is t a = at_most_one (λ r. eqb a r.age) no_rec d (λ j k i l u v. alike t j k i l (omega (arith, eqb-true a (age_at d j) u, eqb-true a (age_at d k) v)))

    if : ((a : ℕ) → count_p (λ r. eqb a r.age) d ≤ 1) → ages_differ d ≡ true
    if most =
        true_all (length d) (new_age d)
        (λ k l. true_all k (λ j. not (eqb (age_at d j) (age_at d k)))
        (λ j i. rw (ne_eqb (age_at d j) (age_at d k) (λ e. omega (arith, most (age_at d k), age_twice d j k i l e)))))

-- they are 0 up to the count less one
pub ages_decide : (d : List Rec) → (ages_all d ≡ true) ↔ Ages d (length d)
ages_decide d = (is, if)
  where
    is : ages_all d ≡ true → Ages d (length d)
    is t a =
        both (true_or_false (ltb a (length d)))
        (λ h. rw h ((differ_decide d).0 (and_right (all_below (length d) (λ k. ltb (age_at d k) (length d))) (ages_differ d) t) a))
        (λ h. rw h (omega (arith, count_zero (λ r. eqb a r.age) d no_rec (not_here h))))
      where
        below : (k : ℕ) → k < length d → age_at d k < length d
        below k l = ltb-true (age_at d k) (length d) (all_true (length d) (λ k. ltb (age_at d k) (length d)) (and_left _ (ages_differ d) t) k l)

        not_here : ltb a (length d) ≡ false → (k : ℕ) → k < length d → eqb a (age_at d k) ≡ false
        not_here h k l = ne_eqb a (age_at d k) (λ e. omega (arith, e, below k l, ltb-false a (length d) h))

    if : Ages d (length d) → ages_all d ≡ true
    if ages =
        rw (
          true_all (length d) (λ k. ltb (age_at d k) (length d)) (λ k l. lt-ltb (age_at d k) (length d) (ages_below d (length d) ages k l)),
          (differ_decide d).1 (λ a. omega (arith, ages a, one_le (ltb a (length d)) true (λ _. refl))),
        )

-- ---- pairs
module _ (n : ℕ) (pt : ℕ → Point) (board : Board n pt) (r : List ℕ) (ring : IsRing n r) (d : List Rec) where
  abbrev F : List Rec
  F = fresh n pt r

  fresh_pair : (e f : Edge) → 0 < counted e f F → Pair n pt r e f
  fresh_pair e f h =
      both (true_or_false (found n pt r e f)) (λ t. found_pair n pt board r ring e f t)
      (λ t. absurd (omega (arith, fresh_counted n pt r (once_edges n r ring board.three) e f, ap one t)))

  names_if : none_else d F ≡ true → none_missing d F ≡ true → Names n pt r d
  names_if t u = record {
    each = λ e f p. one_two (counted e f d) (some e f p) (most e f (some e f p));
    only = λ e f q. both (eq_cases (counted e f d) 0) (λ z. z.0) (λ z. absurd (q (fresh_pair e f (there e f (omega (arith, z.0))))));
  }
    where
      test : (k : ℕ) → k < length d → once_or_twice d F (get_or d k no_rec) ≡ true
      test = all_true (length d) (λ k. once_or_twice d F (get_or d k no_rec)) t

      there : (e f : Edge) → 0 < counted e f d → 0 < counted e f F
      there e f h =
          let (k, l, u, v) = counted_at e f d h in
          let y = ltb-true _ _ (and_left (ltb 0 (times (get_or d k no_rec) F)) _ (test k l)) in
          rw (u, v) at y

      most : (e f : Edge) → 0 < counted e f d → counted e f d ≤ 2
      most e f h =
          let (k, l, u, v) = counted_at e f d h in
          let y = leb-true _ _ (and_right (ltb 0 (times (get_or d k no_rec) F)) _ (test k l)) in
          let z : times (get_or d k no_rec) d ≡ counted e f d = λ i. counted (u i) (v i) d in
          omega (arith, y)

      some : (e f : Edge) → Pair n pt r e f → 0 < counted e f d
      some e f p =
          let (k, l, a, b) = counted_at e f F (omega (arith, (fresh_search n pt board r ring).each e f p)) in
          let y = ltb-true _ _ (all_true (length F) (λ k. ltb 0 (times (get_or F k no_rec) d)) u k l) in
          rw (a, b) at y

      one_two : (x : ℕ) → 0 < x → x ≤ 2 → (x ≡ 1) ⊎ (x ≡ 2)
      one_two x h k = both (eq_cases x 1) (λ e. inl e.0) (λ e. inr (omega (arith, e.0)))

  if_names : Names n pt r d → (none_else d F ≡ true) × (none_missing d F ≡ true)
  if_names na = (
    true_all (length d) (λ k. once_or_twice d F (get_or d k no_rec))
        (λ k h.
        let a : Edge = (get_or d k no_rec).e0 in
        let b : Edge = (get_or d k no_rec).e1 in
        rw (lt-ltb 0 (counted a b F) (listed k h)) (le-leb (counted a b d) _ (most (counted a b d) (na.each a b (fresh_pair a b (listed k h)))))),
    true_all (length F) (λ k. ltb 0 (times (get_or F k no_rec) d))
        (λ k h.
        let a : Edge = (get_or F k no_rec).e0 in
        let b : Edge = (get_or F k no_rec).e1 in
        lt-ltb 0 (counted a b d) (some (counted a b d) (na.each a b (fresh_pair a b (at_counted F k h))))),
  )
    where
      most : (x : ℕ) → (x ≡ 1) ⊎ (x ≡ 2) → x ≤ 2
      most x (inl e) = omega arith
      most x (inr e) = omega arith

      some : (x : ℕ) → (x ≡ 1) ⊎ (x ≡ 2) → 0 < x
      some x (inl e) = omega arith
      some x (inr e) = omega arith

      listed : (k : ℕ) → k < length d → 0 < times (get_or d k no_rec) F
      listed k h =
          let e : Edge = (get_or d k no_rec).e0 in
          let f : Edge = (get_or d k no_rec).e1 in
          both (eq_cases (counted e f F) 0)
          (λ z. absurd (omega (arith, at_counted d k h, na.only e f (λ p. omega (arith, z.0, (fresh_search n pt board r ring).each e f p)))))
          (λ z. omega (arith, z.0))

-- the records' pairs are exactly the fresh search's, each once or twice
pub names_decide : (n : ℕ) (pt : ℕ → Point) → Board n pt → (r : List ℕ) → IsRing n r → (d : List Rec) → (names_all n pt r d ≡ true) ↔ Names n pt r d
names_decide n pt board r ring d = (
  λ t. names_if n pt board r ring d (and_left (none_else d (fresh n pt r)) _ t) (and_right (none_else d (fresh n pt r)) _ t),
  λ na. (let (b0, b1) = if_names n pt board r ring d na in rw (b0, b1)),
)

-- ---- check 21, taking up
pub fits_decides : (n : ℕ) (pt : ℕ → Point) → Board n pt → (m : Image) → IsRing n m.ring → (fits n pt m ≡ true) ↔ Fit n pt m
fits_decides n pt board m ring = (
  λ t. record {
    ring = ring;
    ages = ages_fit m.lines ((ages_decide (slotted 0 m.lines)).0 (and_left (ages_all (slotted 0 m.lines)) _ t));
    names = (names_decide n pt board m.ring ring (slotted 0 m.lines)).0 (and_right (ages_all (slotted 0 m.lines)) _ t);
  },
  λ fit. (
      let a : ages_all (slotted 0 m.lines) ≡ true = (ages_decide (slotted 0 m.lines)).1 (rw (slotted_length 0 m.lines) (fit_ages m.lines fit.ages)) in
      let b : names_all n pt m.ring (slotted 0 m.lines) ≡ true = (names_decide n pt board m.ring ring (slotted 0 m.lines)).1 fit.names in
      rw (a, b)),
)

-- ages that are dense places pass
pub placed_pass : (ls : List Line) → ages_all (slotted 0 (placed 0 ls)) ≡ true
placed_pass ls = (ages_decide (slotted 0 (placed 0 ls))).1 (rw (slotted_length 0 (placed 0 ls)) (fit_ages (placed 0 ls) (placed_ages ls)))

-- ---- and saving
pub savable_decides : (n : ℕ) (pt : ℕ → Point) → Board n pt → (r : List ℕ) (d : List Rec) → IsRing n r → (savable n pt r d ≡ true) ↔ Savable n pt r d
savable_decides n pt board r d ring = (
  λ t. record { ring = ring; ages = (differ_decide d).0 (and_left (ages_differ d) _ t); names = (names_decide n pt board r ring d).0 (and_right (ages_differ d) _ t) },
  λ s. rw ((differ_decide d).1 s.ages, (names_decide n pt board r ring d).1 s.names),
)

-- what can be saved is saved to a fit image
pub savable_fit : (n : ℕ) (pt : ℕ → Point) → Board n pt → (r : List ℕ) (d : List Rec) → Savable n pt r d → Fit n pt (image_of r d)
savable_fit n pt board r d s = renumbered_fit n pt board r d s.ring s.ages s.names
