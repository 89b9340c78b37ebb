-- What is taken up from a fit image is a machine between two picks; and what a run saves is a fit image.
use mathlib.Core.Path.{◌≡◌, refl, sym, ◌∙◌, ap}
use mathlib.Core.Bool.{Bool, true, false, ◌&&◌}
use mathlib.Core.List.{List, [], ◌∷◌, ◌++◌}
use mathlib.Core.Logic.{◌⊎◌, inl, inr}
use Prim.Native.Nat.{ℕ, suc, ◌+◌, ◌-◌, ◌*◌, ◌≤◌, ◌<◌}
use native.Mathlib.Omega.{arith}
use lib.Dec.{eqb, ltb}
use lib.ListN.{length, get_or, length-map, length-append}
use borrow.Author.Tests.{ltb-false, le-ltb, eqb-true, eq-eqb, ne_eqb}
use Rattle.algebra.specs.Cases.{both, true_or_false, never}
use Rattle.algebra.specs.Counting.{one, one_le, count_p, count_at_two, count_zero, count_map, count_append}
use Rattle.geometry.specs.Plane.{Point}
use Rattle.index_edge.specs.Edge.{Edge, eq_edge}
use Rattle.polygon.specs.Ring.{IsRing}
use Rattle.intersection_set.specs.Store.{Rec, no_rec, counted}
use Rattle.intersection_set.specs.Numbered.{Ages, SlotsOf}
use Rattle.intersection_set.proofs.Records.{is_pair, counted_is}
use Rattle.machine.specs.Board.{Board}
use Rattle.machine.specs.Machine.{State, fresh}
use Rattle.machine.specs.Onward.{Names, Ready}
use Rattle.machine.proofs.Scans.{found}
use Rattle.machine.proofs.Bounds.{no_longer, fresh_few}
use Rattle.machine.proofs.Demand3Holds.{found_pair, pair_found, fresh_search}
use Rattle.resume.specs.Image.{Line, Image, rank, line_of, renumbered, image_of, saved, slotted, take_up, placed}
use Rattle.resume.specs.AgesAside.{age_at}
use Rattle.resume.specs.Fit.{Fit}
use Rattle.resume.proofs.Renumbering.{rank_order, rank_below, slotted_length}

-- ---- counts
one_more : (k i : ℕ) → one (ltb k i) + one (eqb k i) ≡ one (ltb k (suc i))
one_more k i = grind arith

-- slots are the places from i on
pub slot_count : (k i : ℕ) (ls : List Line) → count_p (λ r. eqb k r.slot) (slotted i ls) + one (ltb k i) ≡ one (ltb k (i + length ls))
slot_count k i [] = omega (arith, ap (λ (j : ℕ). one (ltb k j)) (let z : i ≡ i + 0 = omega arith in z))
slot_count k i (l ∷ ls) =
    omega (arith, slot_count k (suc i) ls, one_more k i, ap (λ (j : ℕ). one (ltb k j)) (let z : suc i + length ls ≡ i + suc (length ls) = omega arith in z))

age_count : (k i : ℕ) (ls : List Line) → count_p (λ l. eqb k l.age) (placed i ls) + one (ltb k i) ≡ one (ltb k (i + length ls))
age_count k i [] = omega (arith, ap (λ (j : ℕ). one (ltb k j)) (let z : i ≡ i + 0 = omega arith in z))
age_count k i (l ∷ ls) =
    omega (arith, age_count k (suc i) ls, one_more k i, ap (λ (j : ℕ). one (ltb k j)) (let z : suc i + length ls ≡ i + suc (length ls) = omega arith in z))

-- what looks at no slot
slotted_count : (q : Edge → Edge → ℕ → Bool) (i : ℕ) (ls : List Line) → count_p (λ r. q r.e0 r.e1 r.age) (slotted i ls) ≡ count_p (λ l. q l.e0 l.e1 l.age) ls
slotted_count q i [] = refl
slotted_count q i (l ∷ ls) = ap (λ (x : ℕ). one (q l.e0 l.e1 l.age) + x) (slotted_count q (suc i) ls)

-- what looks at no age
placed_count : (q : Edge → Edge → Bool) (i : ℕ) (ls : List Line) → count_p (λ l. q l.e0 l.e1) (placed i ls) ≡ count_p (λ l. q l.e0 l.e1) ls
placed_count q i [] = refl
placed_count q i (l ∷ ls) = ap (λ (x : ℕ). one (q l.e0 l.e1) + x) (placed_count q (suc i) ls)

placed_length : (i : ℕ) (ls : List Line) → length (placed i ls) ≡ length ls
placed_length i [] = refl
placed_length i (l ∷ ls) = ap suc (placed_length (suc i) ls)

lines_counted : (a b : Edge) (ls : List Line) → counted a b (slotted 0 ls) ≡ count_p (λ l. eq_edge a l.e0 && eq_edge b l.e1) ls
lines_counted a b ls = counted_is a b (slotted 0 ls) ∙ slotted_count (λ x y k. eq_edge a x && eq_edge b y) 0 ls

-- an image names what the record named
pub saved_counted : (a b : Edge) (d : List Rec) → counted a b (slotted 0 (renumbered d)) ≡ counted a b d
saved_counted a b d = lines_counted a b (renumbered d) ∙ count_map (λ l. eq_edge a l.e0 && eq_edge b l.e1) (line_of d) d ∙ sym (counted_is a b d)

pub at_most_one : {A : Type 0} (p : A → Bool) (x₀ : A) (l : List A)
    → ((j k : ℕ) → j < k → k < length l → p (get_or l j x₀) ≡ true → p (get_or l k x₀) ≡ true → ⊥) → count_p p l ≤ 1
at_most_one p x₀ [] h = omega arith
at_most_one p x₀ (x ∷ l) h =
    both (true_or_false (p x))
    (λ t.
    let none = λ (k : ℕ) (u : k < length l). both (true_or_false (p (get_or l k x₀))) (λ v. absurd (h 0 (suc k) (omega arith) (omega arith) t v)) (λ v. v) in
    omega (arith, ap one t, count_zero p l x₀ none))
    (λ t. omega (arith, ap one t, at_most_one p x₀ l (λ j k i u. h (suc j) (suc k) (omega arith) (omega arith))))

-- two records of one age are two of that age
pub age_twice : (d : List Rec) (j k : ℕ) → j < k → k < length d → age_at d j ≡ age_at d k → 2 ≤ count_p (λ r. eqb (age_at d k) r.age) d
age_twice d j k i h e = count_at_two (λ r. eqb (age_at d k) r.age) d j k no_rec i h (eq-eqb (age_at d k) (age_at d j) (sym e)) (eq-eqb (age_at d k) (age_at d k) refl)

-- ranks differ as ages do, and are below the count
ranks : (d : List Rec) → ((a : ℕ) → count_p (λ r. eqb a r.age) d ≤ 1) → (a : ℕ) → count_p (λ r. eqb a (rank d r.age)) d ≤ one (ltb a (length d))
ranks d differ a = both (true_or_false (ltb a (length d))) (λ t. rw t (at_most_one low no_rec d alike)) (λ t. rw t (omega (arith, count_zero low d no_rec (none t))))
  where
    low : Rec → Bool
    low r = eqb a (rank d r.age)

    alike : (j k : ℕ) → j < k → k < length d → low (get_or d j no_rec) ≡ true → low (get_or d k no_rec) ≡ true → ⊥
    alike j k i h u v =
        let x : ℕ = rank d (age_at d j) in
        let y : ℕ = rank d (age_at d k) in
        let ex : a ≡ x = eqb-true a x u in
        let ey : a ≡ y = eqb-true a y v in
        let hj : j < length d = omega arith in
        let up : age_at d k ≤ age_at d j = ltb-false (age_at d j) (age_at d k) (rank_order d j k hj h ∙ le-ltb x y (omega arith)) in
        let down : age_at d j ≤ age_at d k = ltb-false (age_at d k) (age_at d j) (rank_order d k j h hj ∙ le-ltb y x (omega arith)) in
        omega (arith, differ (age_at d k), age_twice d j k i h (omega arith))

    none : ltb a (length d) ≡ false → (k : ℕ) → k < length d → low (get_or d k no_rec) ≡ false
    none t k h = ne_eqb a (rank d (age_at d k)) (λ e. omega (arith, e, rank_below d k h, ltb-false a (length d) t))

-- ---- taken up
pub fit_ages : (ls : List Line) → ((a : ℕ) → count_p (λ l. eqb a l.age) ls ≤ one (ltb a (length ls))) → Ages (slotted 0 ls) (length ls)
fit_ages ls h a = omega (arith, slotted_count (λ x y k. eqb a k) 0 ls, h a)

pub ages_fit : (ls : List Line) → Ages (slotted 0 ls) (length (slotted 0 ls)) → (a : ℕ) → count_p (λ l. eqb a l.age) ls ≤ one (ltb a (length ls))
ages_fit ls h a = omega (arith, slotted_count (λ x y k. eqb a k) 0 ls, h a, ap (λ (j : ℕ). one (ltb a j)) (slotted_length 0 ls))

-- ages that are dense places are 0 up to the count less one
pub placed_ages : (ls : List Line) (a : ℕ) → count_p (λ l. eqb a l.age) (placed 0 ls) ≤ one (ltb a (length (placed 0 ls)))
placed_ages ls a =
    let z : 0 + length ls ≡ length (placed 0 ls) = omega (arith, placed_length 0 ls) in
    omega (arith, age_count a 0 ls, ap (λ (j : ℕ). one (ltb a j)) z)

module _ (n : ℕ) (pt : ℕ → Point) (board : Board n pt) where
  -- a record that names each pair that meets once or twice has at most n * (n - 1) entries, even where it names every pair twice
  pub names_few : (r : List ℕ) (d : List Rec) → IsRing n r → Names n pt r d → length d ≤ n * (n - 1)
  names_few r d ring na =
      let F : List Rec = fresh n pt r in
      omega (
        arith,
        fresh_few n pt r,
        length-append F F,
        no_longer d (F ++ F) (λ a b. omega (arith, count_append (is_pair a b) F F, counted_is a b F, counted_is a b d, twice a b)),
      )
    where
      most : (e f : Edge) → counted e f (fresh n pt r) ≡ 1 → (counted e f d ≡ 1) ⊎ (counted e f d ≡ 2) → counted e f d ≤ 2 * counted e f (fresh n pt r)
      most e f h (inl g) = omega arith
      most e f h (inr g) = omega arith

      twice : (e f : Edge) → counted e f d ≤ 2 * counted e f (fresh n pt r)
      twice e f =
          both (true_or_false (found n pt r e f))
          (λ t. let p = found_pair n pt board r ring e f t in most e f ((fresh_search n pt board r ring).each e f p) (na.each e f p))
          (λ t. omega (arith, na.only e f (λ p. never (found n pt r e f) (pair_found n pt board r ring e f p) t)))

  -- what is taken up from a fit image can be gone on from
  pub fit_ready : (m : Image) → Fit n pt m → Ready n pt (take_up m)
  fit_ready m fit =
      record {
        ring = fit.ring;
        names = fit.names;
        numbered = record { ages = fit_ages m.lines fit.ages; slots = slots };
        room = omega (arith, names_few m.ring (slotted 0 m.lines) fit.ring fit.names);
      }
    where
      slots : SlotsOf (slotted 0 m.lines) []
      slots k =
          let z : 0 + length m.lines ≡ length (slotted 0 m.lines) + 0 = omega (arith, slotted_length 0 m.lines) in
          omega (arith, slot_count k 0 m.lines, ap one (le-ltb k 0 (omega arith)), ap (λ (j : ℕ). one (ltb k j)) z)

  -- ---- saved
  -- any record whose ages differ and that names each pair that meets once or twice: its image is fit
  pub renumbered_fit : (r : List ℕ) (d : List Rec) → IsRing n r → ((a : ℕ) → count_p (λ x. eqb a x.age) d ≤ 1) → Names n pt r d → Fit n pt (image_of r d)
  renumbered_fit r d ring differ na = record {
    ring = ring;
    ages = λ a. (let e = length-map d (line_of d) in rw (count_map (λ l. eqb a l.age) (line_of d) d, e) (ranks d differ a));
    names = record { each = λ e f p. rw (saved_counted e f d) (na.each e f p); only = λ e f p. saved_counted e f d ∙ na.only e f p };
  }

  pub saved_fit : (s : State) → Ready n pt s → Fit n pt (saved s)
  saved_fit s ready =
      renumbered_fit s.ring s.store.dense ready.ring (λ a. omega (arith, ready.numbered.ages a, one_le (ltb a s.store.pushes) true (λ _. refl))) ready.names

  -- the same of an image whose ages are its dense places
  pub placed_fit : (r : List ℕ) (ls : List Line) → IsRing n r → Names n pt r (slotted 0 ls) → Fit n pt (record { ring = r; lines = placed 0 ls })
  placed_fit r ls ring na = record {
    ring = ring;
    ages = placed_ages ls;
    names = record { each = λ e f p. rw (same e f) (na.each e f p); only = λ e f p. same e f ∙ na.only e f p };
  }
    where
      same : (e f : Edge) → counted e f (slotted 0 (placed 0 ls)) ≡ counted e f (slotted 0 ls)
      same e f = lines_counted e f (placed 0 ls) ∙ placed_count (λ x y. eq_edge e x && eq_edge f y) 0 ls ∙ sym (lines_counted e f ls)
