-- Over the edges of the ring the counts of the records that name each come to twice the records, since each names two different edges of the ring.
use mathlib.Core.Path.{◌≡◌, refl, ap, ◌∙◌}
use mathlib.Core.Bool.{Bool, true, false}
use mathlib.Core.List.{List, [], ◌∷◌, ◌++◌, map}
use Prim.Native.Nat.{ℕ, zero, suc, ◌+◌, ◌*◌, ◌<◌}
use native.Mathlib.Omega.{arith}
use lib.ListN.{length, get_or}
use Rattle.algebra.specs.Counting.{one, count_p, count_same, count_two}
use Rattle.algebra.specs.Sums.{sum_none, sum_more}
use Rattle.geometry.specs.Plane.{Point}
use Rattle.index_edge.specs.Edge.{Edge, eq_edge, edge_in}
use Rattle.index_edge.proofs.Edges.{eq_edge_sym, lt_edge_diff}
use Rattle.polygon.specs.Ring.{IsRing}
use Rattle.polygon.specs.Edges.{edge_at, edges, edge_sum}
use Rattle.polygon.proofs.EdgeSums.{count_edges}
use Rattle.intersection_set.specs.Store.{Rec, no_rec, names}
use Rattle.intersection_set.specs.Lists.{tangle}
use Rattle.intersection_set.proofs.Records.{Once}
use Rattle.intersection_set.proofs.Tangles.{names_two}
use Rattle.machine.specs.Board.{Board}
use Rattle.machine.specs.Machine.{State, begin, after}
use Rattle.machine.specs.Demand3.{Picks}
use Rattle.machine.specs.Onward.{from, twice_of, Ready}
use Rattle.machine.proofs.GoodPlan.{Recorded, once_edges}
use Rattle.machine.proofs.Exactly.{recorded}
use Rattle.machine.proofs.Bounds.{member_some}
use Rattle.machine.proofs.Room.{Whole}
use Rattle.machine.proofs.Ready.{ready_whole, begin_ready, run_ready}

-- an edge of the list stands in it once
once_there : (a : Edge) (l : List Edge) → Once l → edge_in a l ≡ true → count_p (λ e. eq_edge e a) l ≡ 1
once_there a l once m = count_same (λ e. eq_edge e a) (eq_edge a) (λ e. eq_edge_sym e a) l ∙ omega (arith, once a, member_some a l m)

-- so a record names two of them
named_twice : (l : List Edge) (r : Rec) → Once l → edge_in r.e0 l ≡ true → edge_in r.e1 l ≡ true → eq_edge r.e0 r.e1 ≡ false → count_p (λ e. names e r) l ≡ 2
named_twice l r once m0 m1 d =
    omega (
      arith,
      count_two (λ e. names e r) (λ e. eq_edge e r.e0) (λ e. eq_edge e r.e1) (λ e. names_two e r d) l,
      once_there r.e0 l once m0,
      once_there r.e1 l once m1,
    )

-- record by record
two_each : (n : ℕ) (ring : List ℕ) (d : List Rec) → ((k : ℕ) → k < length d → count_p (λ e. names e (get_or d k no_rec)) (edges n ring) ≡ 2)
    → edge_sum (λ e. count_p (names e) d) n ring ≡ 2 * length d
two_each n ring [] h = sum_none n
two_each n ring (r ∷ d) h =
    omega (
      arith,
      sum_more (λ i. one (names (edge_at n ring i) r)) (λ i. count_p (names (edge_at n ring i)) d) n,
      count_edges (λ e. names e r) n ring,
      h 0 (omega arith),
      two_each n ring d (λ k i. h (suc k) (omega arith)),
    )

module _ (n : ℕ) (pt : ℕ → Point) (board : Board n pt) where
  -- of every state that a run can go on from
  pub tangles_twice : (s : State) → Ready n pt s → edge_sum (λ e. tangle e s.store) n s.ring ≡ 2 * length s.store.dense
  tangles_twice s ready =
      let d : List Rec = s.store.dense in
      let once : Once (edges n s.ring) = once_edges n s.ring ready.ring board.three in
      two_each n s.ring d
      (λ k i.
      let z : Recorded n pt s.ring (get_or d k no_rec).e0 (get_or d k no_rec).e1 = recorded n pt (twice_of s) s [] once (ready_whole n pt board s ready).inv.exact k i in
      named_twice (edges n s.ring) (get_or d k no_rec) once z.first z.second (lt_edge_diff (get_or d k no_rec).e0 (get_or d k no_rec).e1 z.in_order))

  -- So of every state of a run, with every choice of the record that a pick takes.
  pub run_tangles : (w : ℕ → State → ℕ) → Picks w → (r cs : List ℕ) → IsRing n r
      → let s = (after n pt w cs r).now in edge_sum (λ e. tangle e s.store) n s.ring ≡ 2 * length s.store.dense
  run_tangles w picks r cs ring = tangles_twice (after n pt w cs r).now (run_ready n pt board (begin n pt r).now (begin_ready n pt board r ring) w picks cs)
