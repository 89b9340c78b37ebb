-- The search for a kink and an edge that holds it, step by step: along the edges of a run, over the points of two runs, and its end.
use mathlib.Core.Path.{◌≡◌, refl, sym, ◌∙◌, ap}
use mathlib.Core.Bool.{Bool, true, false, not, beq}
use mathlib.Core.List.{List, [], ◌∷◌, ◌++◌, append-nil}
use Prim.Native.Nat.{ℕ, zero, suc, min, ◌+◌, ◌-◌, ◌≤◌, ◌<◌}
use native.Mathlib.Omega.{arith}
use lib.ListN.{length, length-append}
use Rattle.algebra.specs.Cases.{both, true_or_false, le_cases}
use Rattle.std.specs.Prelude.{Option, None}
use Rattle.geometry.specs.Plane.{Point, lt_point}
use Rattle.geometry.specs.Segment.{inside}
use Rattle.geometry.proofs.Points.{inside_is, lt_point_not}
use Rattle.polygon.specs.Ring.{next, stretch, IsRing}
use Rattle.machine.specs.Board.{Board, pt_at, kink_at}
use Rattle.machine.specs.Search.{held_at, search_edges, kink_and_edge}
use Rattle.machine.proofs.Corners.{has_corner, ring_apart}
use Rattle.machine.proofs.Kinks.{never_none}
use Rattle.moves.specs.Walk.{ring_of, place_of, point_of, Moved}
use Rattle.moves.specs.Runs.{run_from, points_of, edges_of, run_points, run_edges, Folded}
use Rattle.moves.specs.Best.{mergable_of, unfound, pair_of, better, looking, with_kink, over_kinks}
use Rattle.moves.specs.declared.extremes.Run.{Run}
use Rattle.moves.specs.declared.search.Best.{Best}
use Rattle.moves.specs.declared.search.Mergable.{Mergable as Pair}
use Rattle.moves.specs.declared.extremes.Direction.TheVariants.{On}
use Rattle.moves.specs.declared.vertex.Vertex.{Vertex}
use Rattle.moves.proofs.RingWalk.{Walk, walk_steps}
use Rattle.moves.proofs.Carried.{Carried}
use Rattle.moves.proofs.BestPair.{kinks_append, better_late, kinks_late, better_here, better_on, better_append, best_found, search_twice}

length_stretch : (n i k : ℕ) → length (stretch n i k) ≡ k
length_stretch n i zero = refl
length_stretch n i (suc k) = ap suc (length_stretch n (next n i) k)

pub below_least : {e a b i : ℕ} → e ≡ min a b → i < e → (i < a) × (i < b)
below_least f h = (omega arith, omega arith)

-- ---- of the ends of an edge that holds a point exactly one is below it
pub other_side : (s t : Bool) → not (beq s t) ≡ true → not t ≡ s
other_side true true e = e
other_side true false e = refl
other_side false true e = refl
other_side false false e = sym e

pub same_side_lem : (s t : Bool) → not (beq s t) ≡ false → t ≡ s
same_side_lem true true e = refl
same_side_lem true false e = sym e
same_side_lem false true e = e
same_side_lem false false e = refl

module _ (n : ℕ) (pt : ℕ → Point) (r : List ℕ) where
  pub one_side : (k p : ℕ) {s : Bool} → s ≡ lt_point (pt_at pt r p) (pt_at pt r k) → s ≡ lt_point (pt_at pt r (next n p)) (pt_at pt r k) → held_at n pt r k p ≡ false
  one_side k p e f =
      let a = pt_at pt r p in
      let b = pt_at pt r (next n p) in
      let v = pt_at pt r k in
      both (true_or_false (held_at n pt r k p))
      (λ h. both (inside_is a b v h).1
      (λ i. absurd (lt_point_not b v (sym f ∙ e ∙ i.0) i.1))
      (λ i. absurd (lt_point_not a v (sym e ∙ f ∙ i.0) i.1)))
      (λ h. h)

  -- ---- along the edges of a run, up to whose end there are `after` edges
  pub whole_run : (k : ℕ) (b : Best) (before edges p : ℕ) → looking n pt r k b (before + edges) before p ≡ better n pt r k before (stretch n p edges) b
  whole_run k b before edges p = ap (λ m. better n pt r k before (stretch n p m) b) (let z : before + edges - before ≡ edges = omega arith in z)

  module _ (k : ℕ) (b : Best) (after p i : ℕ) where
    edges_on : i < after → stretch n p (after - i) ≡ p ∷ stretch n (next n p) (after - (i + 1))
    edges_on h = ap (stretch n p) (let z : after - i ≡ suc (after - (i + 1)) = omega arith in z)

    -- an edge that does not hold the kink is passed
    pub pair_goes : i < after → held_at n pt r k p ≡ false → looking n pt r k b after (i + 1) (next n p) ≡ looking n pt r k b after i p
    pair_goes h e =
        ap (λ j. better n pt r k j (stretch n (next n p) (after - (i + 1))) b) (let z : i + 1 ≡ suc i = omega arith in z)
        ∙ sym (ap (λ ps. better n pt r k i ps b) (edges_on h) ∙ better_on n pt r k i p (stretch n (next n p) (after - (i + 1))) b e)

    -- one that holds it is found
    pub pair_here : i < b.passed → i < after → held_at n pt r k p ≡ true → pair_of k i p ≡ looking n pt r k b after i p
    pair_here l h e =
        sym (better_here n pt r k i p (stretch n (next n p) (after - (i + 1))) b l e) ∙ ap (λ ps. better n pt r k i ps b) (sym (edges_on h))

    -- all that count are passed
    pub pair_ends : {e : ℕ} → e ≡ min b.passed after → e ≤ i → b ≡ looking n pt r k b after i p
    pair_ends {e} f l =
        both (le_cases b.passed i)
        (λ h. sym (better_late n pt r k i (stretch n p (after - i)) b h.0))
        (λ h. sym (ap (λ m. better n pt r k i (stretch n p m) b) (let z : after - i ≡ 0 = omega arith in z)))

  -- ---- one point more
  edges_count : (s : Run) → length (edges_of n s) ≡ s.edges
  edges_count s = length_stretch n s.from.id.0 s.edges

  pub of_both : (s t : Run) (k : ℕ) (b : Best) {c d : Best} → c ≡ better n pt r k 0 (edges_of n s) b → d ≡ better n pt r k s.edges (edges_of n t) c → d ≡ better n pt r k 0 (run_edges n s t) b
  of_both s t k b f g =
      let z : s.edges ≡ 0 + length (edges_of n s) = omega (arith, edges_count s) in
      g ∙ (λ j. better n pt r k (z j) (edges_of n t) (f j)) ∙ sym (better_append n pt r k 0 (edges_of n s) (edges_of n t) b)

  -- a pair of the first run is better than any of the second
  pub of_first : (s t : Run) (k : ℕ) (b : Best) {c : Best} → c ≡ better n pt r k 0 (edges_of n s) b → c.passed ≤ s.edges → c ≡ better n pt r k 0 (run_edges n s t) b
  of_first s t k b {c} f h = of_both s t k b f (sym (better_late n pt r k s.edges (edges_of n t) c h))

  -- a point counts if it is a kink
  pub best_stays : (ps : List ℕ) (k : ℕ) (b : Best) → kink_at n pt r k ≡ false → b ≡ with_kink n pt r ps k b
  best_stays ps k b e = rw e

  pub best_moves : (ps : List ℕ) (k : ℕ) (b : Best) {c : Best} → kink_at n pt r k ≡ true → c ≡ better n pt r k 0 ps b → c ≡ with_kink n pt r ps k b
  best_moves ps k b e f = f ∙ rw e

  -- ---- over the points of a run: a point is a kink by those that are carried past it
  pub kink_is : {i : ℕ} {b h a : Point} → Carried On n pt r i b h → a ≡ pt_at pt r (next n i) → not (inside b a h) ≡ kink_at n pt r i
  kink_is k f = λ t. not (inside (k.behind t) (f t) (k.here t))

  -- ---- all points of one run or of two
  pub one_run : (s : Run) {b : Best} → b ≡ over_kinks n pt r (run_edges n s (record { from = s.from; edges = 0 })) (points_of n s) (unfound s.edges) → mergable_of b.found ≡ search_edges n pt r (points_of n s) (edges_of n s)
  one_run s e =
      best_found n pt r (points_of n s) (edges_of n s ++ []) (sym (ap length (append-nil (edges_of n s)) ∙ edges_count s)) e
      ∙ ap (search_edges n pt r (points_of n s)) (append-nil (edges_of n s))

  pub two_runs : (s t : Run) {b c : Best} → b ≡ over_kinks n pt r (run_edges n s t) (points_of n s) (unfound (s.edges + t.edges)) → c ≡ over_kinks n pt r (run_edges n s t) (points_of n t) b →
      mergable_of c.found ≡ search_edges n pt r (run_points n s t) (run_edges n s t)
  two_runs s t e f =
      best_found n pt r (run_points n s t) (run_edges n s t) (sym (length-append (edges_of n s) (edges_of n t) ∙ (λ j. edges_count s j + edges_count t j)))
      (f ∙ ap (over_kinks n pt r (run_edges n s t) (points_of n t)) e ∙ sym (kinks_append n pt r (run_edges n s t) (points_of n s) (points_of n t) (unfound (s.edges + t.edges))))

-- ---- a walk over the points of a run keeps the best pair so far
module _ (v : Vertex) (s t : Run) where
  abbrev pub go_on : Best → ℕ → ℕ → Best
  go_on b m i = over_kinks v.points.n (point_of v) (ring_of v) (run_edges v.points.n s t) (stretch v.points.n i m) b

  module _ {b : Best} {end : Best} {w : Vertex} {left : ℕ} (k : Walk v (go_on b) end w left) where
    pub kink_goes : {m : ℕ} → suc m ≡ left → {b' : Best} → b' ≡ with_kink v.points.n (point_of v) (ring_of v) (run_edges v.points.n s t) (place_of w) b → {q : Vertex} →
        Moved w (next w.points.n (place_of w)) q → Walk v (go_on b') end q m
    kink_goes {m} h e d =
        walk_steps k next d (ap (over_kinks v.points.n (point_of v) (ring_of v) (run_edges v.points.n s t) (stretch v.points.n (next v.points.n (place_of w)) m)) e ∙ ap (λ m. go_on b m (place_of w)) h)

    pub kinks_stop : b.passed ≡ 0 → b ≡ end
    kinks_stop h = sym (kinks_late v.points.n (point_of v) (ring_of v) (run_edges v.points.n s t) (stretch v.points.n (place_of w) left) b (omega arith)) ∙ k.same

    pub kinks_end : left ≡ 0 → b ≡ end
    kinks_end h = sym (ap (λ m. go_on b m (place_of w)) h) ∙ k.same

-- ---- both runs are those of the edges at i and j
pub both_runs : (n : ℕ) (pt : ℕ → Point) (r : List ℕ) (i j : ℕ) {a b : Run} → a ≡ run_from n pt r i → b ≡ run_from n pt r j →
    search_edges n pt r (run_points n a b) (run_edges n a b) ≡ kink_and_edge n pt r i j
both_runs n pt r i j e f = λ t. search_edges n pt r (run_points n (e t) (f t)) (run_edges n (e t) (f t))

-- the same where one run has both edges
pub run_of_both : (n : ℕ) (pt : ℕ → Point) (r : List ℕ) (i j : ℕ) {a : Run} → a ≡ run_from n pt r i → run_from n pt r j ≡ run_from n pt r i →
    search_edges n pt r (points_of n a) (edges_of n a) ≡ kink_and_edge n pt r i j
run_of_both n pt r i j {a} e z = search_twice n pt r (points_of n a) (edges_of n a) ∙ both_runs n pt r i j e (e ∙ sym z)

-- ---- on a board the search is never none
pub never_nothing : (n : ℕ) (pt : ℕ → Point) (r : List ℕ) {i j : ℕ} {m : Option Pair} → IsRing n r → Board n pt → i < n → j < n → Folded n pt r i j →
    m ≡ None → mergable_of m ≡ kink_and_edge n pt r i j → ⊥
never_nothing n pt r {i} {j} ring board li lj f e h =
    let (c, lc, co) = has_corner n pt board.three board.distinct r ring board.not_line in
    never_none n pt r board.three (ring_apart n pt r ring board.distinct) c lc co i j li lj f.apart f.one_line f.meet (sym h ∙ ap mergable_of e)
