-- What the marks decide: whether the records name exactly the pairs that meet.
use Rattle.std.specs.Prelude.{◌≡◌, refl, Bool, true, false, List, ◌⊎◌, ℕ, ◌≤◌, ◌<◌, length, get_or}
use Rattle.std.proofs.Common.{inl, inr, sym, ◌∙◌, arith}
use Rattle.std.proofs.lemmas.Bool.Decides.{nat_tests}
use Rattle.algebra.specs.Cases.{both, eq_cases, true_or_false, never}
use Rattle.algebra.specs.Ranges.{all_below, all_true, true_all}
use Rattle.geometry.specs.Plane.{Point}
use Rattle.index_edge.specs.Edge.{Edge, lt_edge}
use Rattle.polygon.specs.Ring.{IsRing}
use Rattle.polygon.specs.Edges.{edge_at}
use Rattle.polygon.proofs.RingEdges.{edge_member}
use Rattle.intersection_set.specs.Store.{Rec, no_rec, counted}
use Rattle.intersection_set.specs.Pool.{lesser, greater}
use Rattle.machine.specs.Board.{Board, meet_edges}
use Rattle.machine.specs.Demand3.{Pair}
use Rattle.machine.specs.Onward.{Names}
use Rattle.machine.proofs.Scans.{found}
use Rattle.machine.proofs.Demand3Holds.{found_pair, pair_found}
use Rattle.sweeps.proofs.Ends.{proper_at, meet_comm}
use Rattle.resume.specs.Check.{names_all}
use Rattle.resume.proofs.Checking.{counted_at, at_counted, names_decide}
use Rattle.audit.specs.Marks.{mark_at, Between, MarksAll, SomeUnfit, agree}
use Rattle.audit.proofs.Marking.{at_two, two_edges}

module _ (n : ℕ) (pt : ℕ → Point) (board : Board n pt) (r : List ℕ) (ring : IsRing n r) where
  -- two edges in their order, asked at their positions
  meeting : {e f : Edge} {i j : ℕ} → Between n r e f i j → meet_edges pt (edge_at n r i) (edge_at n r j) ≡ meet_edges pt e f
  meeting {e} {f} {i} {j} b = go (lt_edge (edge_at n r i) (edge_at n r j)) refl
    where
      two : 2 ≤ n
      two = omega (arith, board.three)

      li : i < n
      li = omega (arith, b.in_turn, b.within)

      go : (t : Bool) → lt_edge (edge_at n r i) (edge_at n r j) ≡ t → meet_edges pt (edge_at n r i) (edge_at n r j) ≡ meet_edges pt e f
      go true t =
          let x : edge_at n r i ≡ e = sym (b.first ∙ rw t refl) in
          let y : edge_at n r j ≡ f = sym (b.second ∙ rw t refl) in
          λ k. meet_edges pt (x k) (y k)
      go false t =
          let x : edge_at n r j ≡ e = sym (b.first ∙ rw t refl) in
          let y : edge_at n r i ≡ f = sym (b.second ∙ rw t refl) in
          meet_comm board.distinct (proper_at ring two i li) (proper_at ring two j b.within) ∙ (λ k. meet_edges pt (x k) (y k))

  -- they are a pair exactly if they meet
  is_found : {e f : Edge} {i j : ℕ} → Between n r e f i j → found n pt r e f ≡ meet_edges pt (edge_at n r i) (edge_at n r j)
  is_found {e} {f} b =
      let two = two_edges ring board.three b in
      rw (edge_member n r e two.first, edge_member n r f two.second, two.in_order) (sym (meeting b))

  pair_at : {e f : Edge} {i j : ℕ} → Between n r e f i j → meet_edges pt (edge_at n r i) (edge_at n r j) ≡ true → Pair n pt r e f
  pair_at {e} {f} b t = found_pair n pt board r ring e f (is_found b ∙ t)

  at_pair : {e f : Edge} {i j : ℕ} → Between n r e f i j → Pair n pt r e f → meet_edges pt (edge_at n r i) (edge_at n r j) ≡ true
  at_pair {e} {f} b p = sym (is_found b) ∙ pair_found n pt board r ring e f p

  -- ---- a record that does not fit
  pub some_unfit : (d : List Rec) → SomeUnfit n r d → ¬ (Names n pt r d)
  some_unfit d (k, l, inl none) na =
      let x = get_or d k no_rec in
      omega (arith, at_counted d k l, na.only x.e0 x.e1 (λ p. none (record { first = p.first; second = p.second; in_order = p.in_order })))
  some_unfit d (k, l, inr three) na =
      let x = get_or d k no_rec in
      both (true_or_false (found n pt r x.e0 x.e1))
      (λ t. both (na.each x.e0 x.e1 (found_pair n pt board r ring x.e0 x.e1 t)) (λ z. omega (arith, three, z)) (λ z. omega (arith, three, z)))
      (λ t. omega (arith, three, na.only x.e0 x.e1 (λ p. never (found n pt r x.e0 x.e1) (pair_found n pt board r ring x.e0 x.e1 p) t)))

  -- ---- marks
  module _ (d : List Rec) (t : List ℕ) (marks : MarksAll n r d t) where
    abbrev all_agree : Bool
    all_agree = all_below n (λ j. all_below j (λ i. agree n pt r t i j))

    -- how often a pair is named
    named : {e f : Edge} {i j : ℕ} → Between n r e f i j → mark_at n i j t ≡ counted e f d
    named {i = i} {j = j} b = marks.says i j b.in_turn b.within ∙ (λ k. counted (sym b.first k) (sym b.second k) d)

    -- the test at two positions, where they meet and where they do not
    marked : (i j : ℕ) → agree n pt r t i j ≡ true → meet_edges pt (edge_at n r i) (edge_at n r j) ≡ true → 0 < mark_at n i j t
    marked i j h m = grind (arith, nat_tests, h, m)

    unmarked : (i j : ℕ) → agree n pt r t i j ≡ true → meet_edges pt (edge_at n r i) (edge_at n r j) ≡ false → mark_at n i j t ≡ 0
    unmarked i j h m = grind (arith, nat_tests, h, m)

    is_marked : (i j : ℕ) → meet_edges pt (edge_at n r i) (edge_at n r j) ≡ true → 0 < mark_at n i j t → agree n pt r t i j ≡ true
    is_marked i j m h = grind (arith, nat_tests, h, m)

    is_unmarked : (i j : ℕ) → meet_edges pt (edge_at n r i) (edge_at n r j) ≡ false → mark_at n i j t ≡ 0 → agree n pt r t i j ≡ true
    is_unmarked i j m h = grind (arith, nat_tests, h, m)

    one_two : (x : ℕ) → 0 < x → x ≤ 2 → (x ≡ 1) ⊎ (x ≡ 2)
    one_two x h k = both (eq_cases x 1) (λ e. inl e.0) (λ e. inr (omega (arith, e.0, h, k)))

    names_exactly : all_agree ≡ true → Names n pt r d
    names_exactly h = record { each = each; only = only }
      where
        at_pos : (i j : ℕ) → i < j → j < n → agree n pt r t i j ≡ true
        at_pos i j ij lj = all_true j (λ i. agree n pt r t i j) (all_true n (λ j. all_below j (λ i. agree n pt r t i j)) h j lj) i ij

        each : (e f : Edge) → Pair n pt r e f → (counted e f d ≡ 1) ⊎ (counted e f d ≡ 2)
        each e f p =
            let (p0, lp, ep) = p.first in
            let (q0, lq, eq) = p.second in
            let (i, j, b, place) = at_two ring board.three p0 q0 lp lq ep eq p.in_order in
            one_two (counted e f d) (omega (arith, named b, marked i j (at_pos i j b.in_turn b.within) (at_pair b p))) (omega (arith, named b, marks.few i j b.in_turn b.within))

        only : (e f : Edge) → ¬ (Pair n pt r e f) → counted e f d ≡ 0
        only e f apart = both (eq_cases (counted e f d) 0) (λ z. z.0) (λ z. absurd (found_one (counted_at e f d (omega (arith, z.0)))))
          where
            found_one : (k : ℕ) × (k < length d) × ((get_or d k no_rec).e0 ≡ e) × ((get_or d k no_rec).e1 ≡ f) → ⊥
            found_one (k, l, x, y) =
                let w = marks.two k l in
                let (p0, lp, ep) = w.first in
                let (q0, lq, eq) = w.second in
                let (i, j, b, place) = at_two ring board.three p0 q0 lp lq (ep ∙ x) (eq ∙ y) ((λ z. lt_edge (sym x z) (sym y z)) ∙ w.in_order) in
                both (true_or_false (meet_edges pt (edge_at n r i) (edge_at n r j)))
                (λ m. apart (pair_at b m))
                (λ m. let c : 0 < counted e f d = rw (sym x, sym y) (at_counted d k l) in omega (arith, named b, unmarked i j (at_pos i j b.in_turn b.within) m, c))

    exactly_names : Names n pt r d → all_agree ≡ true
    exactly_names na = true_all n (λ j. all_below j (λ i. agree n pt r t i j)) (λ j lj. true_all j (λ i. agree n pt r t i j) (λ i ij. at_pos i j ij lj))
      where
        at_pos : (i j : ℕ) → i < j → j < n → agree n pt r t i j ≡ true
        at_pos i j ij lj =
            let b : Between n r (lesser (edge_at n r i) (edge_at n r j)) (greater (edge_at n r i) (edge_at n r j)) i j = record { in_turn = ij; within = lj; first = refl; second = refl } in
            both (true_or_false (meet_edges pt (edge_at n r i) (edge_at n r j)))
            (λ m. is_marked i j m (both (na.each _ _ (pair_at b m)) (λ z. omega (arith, named b, z)) (λ z. omega (arith, named b, z))))
            (λ m. is_unmarked i j m (named b ∙ na.only _ _ (λ p. never _ (at_pair b p) m)))

    -- the answer
    pub marks_decide : {b : Bool} → b ≡ all_agree → b ≡ names_all n pt r d
    marks_decide {b} h = same_from_iff b (names_all n pt r d)
        (λ e. (names_decide n pt board r ring d).1 (names_exactly (sym h ∙ e)))
        (λ e. h ∙ exactly_names ((names_decide n pt board r ring d).0 e))
      where
        same_from_iff : (a b : Bool) → (a ≡ true → b ≡ true) → (b ≡ true → a ≡ true) → a ≡ b
        same_from_iff true b x y = sym (x refl)
        same_from_iff false true x y = y refl
        same_from_iff false false x y = refl

  pub unfit_decides : (d : List Rec) → SomeUnfit n r d → false ≡ names_all n pt r d
  unfit_decides d u = both (true_or_false (names_all n pt r d)) (λ e. absurd (some_unfit d u ((names_decide n pt board r ring d).0 e))) (λ e. sym e)
