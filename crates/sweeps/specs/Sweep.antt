-- One edge against every edge of the ring: every other one, as in a move, or every greater one, as at the start.
use Rattle.std.specs.Prelude.{Bool, not, ◌&&◌, List, ℕ, ◌-◌, ◌*◌, ◌≤◌, ◌<◌, length}
use Rattle.geometry.specs.Plane.{Point}
use Rattle.index_edge.specs.Edge.{Edge, eq_edge, lt_edge}
use Rattle.polygon.specs.Edges.{edges}
use Rattle.intersection_set.specs.Store.{Store}
use Rattle.machine.specs.Board.{meet_edges}
use Rattle.machine.specs.Machine.{scan_over, pairs_with}
use Rattle.sweeps.specs.declared.candidate.Against.{Against}
use Rattle.sweeps.specs.declared.candidate.Against.TheVariants.{Others, Greater}

-- against the others, in a move, the other edge is pushed first; else, at the start, the edge itself
abbrev pub first_of : Against → Edge → Edge → Edge
first_of Others e f = f
first_of Greater e f = e

abbrev pub second_of : Against → Edge → Edge → Edge
second_of Others e f = e
second_of Greater e f = f

-- in a move every other edge is asked, at the start every greater one
abbrev pub asked : Against → Edge → Edge → Bool
asked Others e f = not (eq_edge f e)
asked Greater e f = lt_edge e f

-- one that is asked makes a record where it meets
abbrev pub wanted : (ℕ → Point) → Against → Edge → Edge → Bool
wanted pt b e f = asked b e f && meet_edges pt (first_of b e f) (second_of b e f)

-- the whole sweep
abbrev pub sweep_over : (ℕ → Point) → Against → Edge → List Edge → Store → Store
sweep_over pt Others e l s = scan_over pt e l s
sweep_over pt Greater e l s = pairs_with pt e l s

-- a store of no more than n×(n-1) records, with ages of 32 bits
pub record Small (n : ℕ) (s : Store) : Type 0 where
  pub few : length s.dense ≤ n * (n - 1)
  pub young : s.pushes < 4294967296

-- it leaves one
abbrev pub Fits : (n : ℕ) (pt : ℕ → Point) (r : List ℕ) → Against → Edge → Store → Type 0
Fits n pt r b e s = Small n (sweep_over pt b e (edges n r) s)
