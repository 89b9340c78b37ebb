-- What the record's laws ask of a ring and of a move, and that every ring of a board and every move of a recorded pair give it.
use mathlib.Core.Path.{◌≡◌, refl, sym, ◌∙◌, ap}
use mathlib.Core.Bool.{Bool, true, false, not, ◌&&◌, ◌||◌}
use mathlib.Core.List.{List, [], ◌∷◌, map}
use mathlib.Core.Logic.{◌≢◌}
use Prim.Native.Nat.{ℕ, zero, suc, ◌+◌, ◌≤◌, ◌<◌}
use native.Mathlib.Omega.{arith}
use Rattle.geometry.specs.Plane.{Point}
use Rattle.index_edge.specs.Edge.{Edge, edge, eq_edge, lt_edge, edge_in}
use Rattle.polygon.specs.Change.{Fits, Plan, by_hoist, cut, lay, turned}
use Rattle.algebra.specs.Ranges.{up_from}
use Rattle.polygon.specs.Ring.{next, prev, at, IsRing}
use Rattle.polygon.specs.Edges.{edge_at, edges, direct}
use Rattle.machine.specs.Board.{meet_edges, Distinct, Board}
use Rattle.machine.specs.Search.{plan_at}
use Rattle.algebra.specs.Counting.{one, count_p}
use Rattle.algebra.specs.Cases.{both, le_cases, true_or_false, never}
use Rattle.polygon.proofs.Positions.{next_lt, next_not}
use Rattle.index_edge.proofs.Edges.{eq_edge_true, eq_edge_false, member_cases, not_head, not_tail, not_member, eq_edge_of, lt_edge_diff}
use Rattle.polygon.proofs.RingEdges.{edges_differ, in_table, member_edge}
use Rattle.polygon.proofs.LaidEdges.{next_inj, uncross_lay_differ, hoist_lay_12, hoist_lay_13, hoist_lay_23}
use Rattle.polygon.proofs.Plans.{turned_ring, turned_edges, lay_cut}
use Rattle.machine.proofs.EdgesMeet.{meet_edges_comm}
use Rattle.machine.proofs.Planned.{Works, uncrosses, hoists, plan_of_lem}
use Rattle.intersection_set.proofs.Records.{Once}

-- what a move has to do to the edges of the ring
pub record GoodPlan (n : ℕ) (pt : ℕ → Point) (r : List ℕ) (m : Plan) : Type 0 where
  pub after : (e : Edge) → edge_in e (edges n (turned n m r)) ≡ ((edge_in e (edges n r) && not (edge_in e (cut n m r))) || edge_in e (lay n m r))
  pub once : Once (edges n r)
  pub once_after : Once (edges n (turned n m r))
  pub once_lay : Once (lay n m r)
  pub new : (e : Edge) → ((edge_in e (edges n r) && not (edge_in e (cut n m r))) && edge_in e (lay n m r)) ≡ false
  pub apart : by_hoist m ≡ false → (e f : Edge) → edge_in e (lay n m r) ≡ true → edge_in f (lay n m r) ≡ true → eq_edge e f ≡ false → meet_edges pt e f ≡ false
  pub meet_sym : (e f : Edge) → edge_in e (edges n (turned n m r)) ≡ true → edge_in f (edges n (turned n m r)) ≡ true → meet_edges pt e f ≡ meet_edges pt f e

-- what a record names
pub record Recorded (n : ℕ) (pt : ℕ → Point) (r : List ℕ) (a b : Edge) : Type 0 where
  pub first : edge_in a (edges n r) ≡ true
  pub second : edge_in b (edges n r) ≡ true
  pub in_order : lt_edge a b ≡ true
  pub meeting : meet_edges pt a b ≡ true

-- ---- no edge stands twice
count_absent : (e : Edge) (l : List Edge) → edge_in e l ≡ false → count_p (eq_edge e) l ≡ 0
count_absent e [] h = refl
count_absent e (f ∷ l) h = omega (arith, ap one (eq_edge_false e f (not_head e f l h)), count_absent e l (not_tail e f l h))

once_cons : (f : Edge) (l : List Edge) → edge_in f l ≡ false → Once l → Once (f ∷ l)
once_cons f l h o e =
    both (true_or_false (eq_edge e f))
    (λ t. omega (arith, ap one t, count_absent e l (rw (eq_edge_true e f t) h)))
    (λ t. omega (arith, ap one t, o e))

once_two : (f g : Edge) → f ≢ g → Once (f ∷ g ∷ [])
once_two f g fg = once_cons f (g ∷ []) (not_member f g [] fg refl) (once_cons g [] refl (λ e. omega arith))

once_three : (f g h : Edge) → f ≢ g → f ≢ h → g ≢ h → Once (f ∷ g ∷ h ∷ [])
once_three f g h fg fh gh = once_cons f (g ∷ h ∷ []) (not_member f g (h ∷ []) fg (not_member f h [] fh refl)) (once_two g h gh)

once_table : (g : ℕ → Edge) (s n : ℕ) → ((i j : ℕ) → i < n → j < n → g (s + i) ≡ g (s + j) → i ≡ j) → Once (map g (up_from s n))
once_table g s zero inj = λ e. omega arith
once_table g s (suc n) inj =
    let shift : (x : ℕ) → suc s + x ≡ s + suc x = λ x. omega arith in
    let tail : List Edge = map g (up_from (suc s) n) in
    once_cons (g s) tail
    (both (true_or_false (edge_in (g s) tail))
    (λ t. let (i, l, p) = in_table (g s) g (suc s) n t in
    absurd (let z = inj (suc i) 0 (omega arith) (omega arith) (ap g (sym (shift i)) ∙ p ∙ ap g (omega arith)) in omega arith))
    (λ t. t))
    (once_table g (suc s) n (λ i j li lj p. (let q = inj (suc i) (suc j) (omega arith) (omega arith) (ap g (sym (shift i)) ∙ p ∙ ap g (shift j)) in omega arith)))

pub once_edges : (n : ℕ) (r : List ℕ) → IsRing n r → 3 ≤ n → Once (edges n r)
once_edges n r ring three = once_table (edge_at n r) 0 n (λ i j li lj p. edges_differ n r ring three i j li lj (ap (edge_at n r) (omega arith) ∙ p ∙ ap (edge_at n r) (omega arith)))

-- ---- the ends of an edge are two points
edge_apart : (n : ℕ) (pt : ℕ → Point) → Distinct n pt → (x y : ℕ) → x < n → y < n → x ≢ y → pt (edge x y).lo ≢ pt (edge x y).hi
edge_apart n pt di x y lx ly ne =
    both (le_cases (suc x) y)
    (λ h. rw h.1 (λ e. ne (di x y lx ly e)))
    (λ h. rw h.1 (λ e. ne (sym (di y x ly lx e))))

module _ (n : ℕ) (pt : ℕ → Point) (board : Board n pt) where
  pub ring_edge_apart : (r : List ℕ) → IsRing n r → (e : Edge) → edge_in e (edges n r) ≡ true → pt e.lo ≢ pt e.hi
  ring_edge_apart r ring e t =
      let (i, l, p) = member_edge n r e t in
      let l' = next_lt n i l in
      rw (sym p) (edge_apart n pt board.distinct (at r i) (at r (next n i)) (ring.below i l) (ring.below (next n i) l') (λ z. next_not n i (omega arith) l (sym (ring.apart i (next n i) l l' z))))

  module _ (r : List ℕ) (ring : IsRing n r) where
    works_fits : (m : Plan) → Works n pt r m → Fits n m
    works_fits m (uncrosses c a) = c
    works_fits m (hoists h k i) = h

    works_once : (m : Plan) → Works n pt r m → Once (lay n m r)
    works_once m (uncrosses {a} {b} c z) = once_two (edge (at r a) (at r b)) (edge (at r (next n a)) (at r (next n b))) (uncross_lay_differ n r ring board.three a b c.la c.lb c.ab)
    works_once m (hoists {k} {p} h x y) =
        once_three (edge (at r (prev n k)) (at r (next n k))) (edge (at r p) (at r k)) (edge (at r k) (at r (next n p)))
        (hoist_lay_12 n r ring board.three k p h.lk h.lp h.kp h.not_on)
        (hoist_lay_13 n r ring board.three k p h.lk h.lp h.kp h.not_on)
        (hoist_lay_23 n r ring board.three k p h.lk h.lp h.kp h.not_on)

    works_apart : (m : Plan) → Works n pt r m → by_hoist m ≡ false → (e f : Edge) → edge_in e (lay n m r) ≡ true → edge_in f (lay n m r) ≡ true → eq_edge e f ≡ false → meet_edges pt e f ≡ false
    works_apart m (uncrosses {a} {b} c z) h e f p q ne =
        both (member_cases e l1 (l2 ∷ []) p)
        (λ x. both (member_cases f l1 (l2 ∷ []) q)
        (λ y. same (x ∙ sym y))
        (λ y. both (member_cases f l2 [] y) (λ y. rw (x, y) z) (λ y. never false y refl)))
        (λ x. both (member_cases e l2 [] x)
        (λ x. both (member_cases f l1 (l2 ∷ []) q)
        (λ y. rw (x, y) (meet_edges_comm pt l1 l2 apart₁ apart₂ ∙ z))
        (λ y. both (member_cases f l2 [] y) (λ y. same (x ∙ sym y)) (λ y. never false y refl)))
        (λ x. never false x refl))
      where
        l1 : Edge
        l1 = edge (at r a) (at r b)

        l2 : Edge
        l2 = edge (at r (next n a)) (at r (next n b))

        same : {A : Type 0} → e ≡ f → A
        same u = never (eq_edge e f) (eq_edge_of e f u) ne

        pair_apart : (i j : ℕ) → i < n → j < n → i ≢ j → pt (edge (at r i) (at r j)).lo ≢ pt (edge (at r i) (at r j)).hi
        pair_apart i j li lj ij = edge_apart n pt board.distinct (at r i) (at r j) (ring.below i li) (ring.below j lj) (λ u. ij (ring.apart i j li lj u))

        apart₁ : pt l1.lo ≢ pt l1.hi
        apart₁ = pair_apart a b c.la c.lb c.ab

        apart₂ : pt l2.lo ≢ pt l2.hi
        apart₂ = pair_apart (next n a) (next n b) (next_lt n a c.la) (next_lt n b c.lb) (λ u. c.ab (next_inj n a b c.la c.lb u))
    works_apart m (hoists k i j) h e f p q ne = never true refl h

    works_good : (m : Plan) → Works n pt r m → GoodPlan n pt r m
    works_good m w =
        let fit = works_fits m w in
        let three = board.three in
        let after = turned_ring n m r fit ring in
        record {
          after = turned_edges n m r fit ring three;
          once = once_edges n r ring three;
          once_after = once_edges n (turned n m r) after three;
          once_lay = works_once m w;
          new = λ e. gone (edge_in e (edges n r)) (edge_in e (cut n m r)) (edge_in e (lay n m r)) (λ x y. lay_cut n m r fit ring three e x y);
          apart = works_apart m w;
          meet_sym = λ e f x y. meet_edges_comm pt f e (ring_edge_apart (turned n m r) after f y) (ring_edge_apart (turned n m r) after e x);
        }
      where
        gone : (e c l : Bool) → (l ≡ true → e ≡ true → c ≡ true) → ((e && not c) && l) ≡ false
        gone true true l f = refl
        gone true false true f = sym (f refl refl)
        gone true false false f = refl
        gone false c l f = refl

    module _ (a b : Edge) (q : Recorded n pt r a b) where
      plan_works : Works n pt r (plan_at n pt r (direct n r a) (direct n r b))
      plan_works =
          plan_of_lem n pt board.three board.distinct board.not_line r ring a b (member_edge n r a q.first) (member_edge n r b q.second)
          (λ e. never (eq_edge a b) (eq_edge_of a b e) (lt_edge_diff a b q.in_order))
          q.meeting

      pub plan_fits : Fits n (plan_at n pt r (direct n r a) (direct n r b))
      plan_fits = works_fits (plan_at n pt r (direct n r a) (direct n r b)) plan_works

      pub good_plan : GoodPlan n pt r (plan_at n pt r (direct n r a) (direct n r b))
      good_plan = works_good (plan_at n pt r (direct n r a) (direct n r b)) plan_works

      pub plan_ring : IsRing n (turned n (plan_at n pt r (direct n r a) (direct n r b)) r)
      plan_ring = turned_ring n (plan_at n pt r (direct n r a) (direct n r b)) r (works_fits (plan_at n pt r (direct n r a) (direct n r b)) plan_works) ring
