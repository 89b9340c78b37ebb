-- Several edges, and the sweeps of a move or of the start for them.
use Rattle.std.specs.Prelude.{List, ℕ, ◌<◌, length, get_or}
use Rattle.geometry.specs.Plane.{Point}
use Rattle.index_edge.specs.Edge.{Edge}
use Rattle.polygon.specs.Edges.{edges}
use Rattle.intersection_set.specs.Store.{Store}
use Rattle.intersection_set.specs.Within.{Proper}
use Rattle.machine.specs.Machine.{scans, pairs}
use Rattle.sweeps.specs.Sweep.{Small}
use Rattle.sweeps.specs.declared.candidate.Against.{Against}
use Rattle.sweeps.specs.declared.candidate.Against.TheVariants.{Others, Greater}

-- a place past the end of a list reads as this
abbrev pub nowhere : Edge
nowhere = record { lo = 0; hi = 0 }

-- the sweeps of a move, or of the start
abbrev pub sweeps_over : (ℕ → Point) → Against → List Edge → List Edge → Store → Store
sweeps_over pt Others all l s = scans pt all l s
sweeps_over pt Greater all l s = pairs pt all l s

-- each is an edge between two of n points
abbrev pub AllProper : ℕ → List Edge → Type 0
AllProper n l = (i : ℕ) → i < length l → Proper n (get_or l i nowhere)

-- they leave no more records and pushes than there is room for
abbrev pub FitAll : (n : ℕ) (pt : ℕ → Point) (r : List ℕ) → Against → List Edge → Store → Type 0
FitAll n pt r b l s = Small n (sweeps_over pt b (edges n r) l s)
