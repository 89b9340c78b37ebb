-- The runs of two edges as the code holds them.
use Rattle.std.specs.Prelude.{◌≡◌, true, List, ◌++◌, ◌≢◌, ℕ, suc, ◌<◌}
use Rattle.geometry.specs.Plane.{Point}
use Rattle.geometry.specs.Segment.{meets}
use Rattle.polygon.specs.Ring.{next, prev, dist, stretch}
use Rattle.polygon.specs.Place.{position}
use Rattle.machine.specs.Board.{pt_at}
use Rattle.machine.specs.Search.{run_back, run_on, flat}
use Rattle.moves.specs.declared.extremes.Run.{Run}
use Rattle.moves.specs.declared.extremes.Direction.{Direction}
use Rattle.moves.specs.declared.extremes.Direction.TheVariants.{Back, On}

-- one place back, or on
abbrev pub step : Direction → ℕ → ℕ → ℕ
step Back n i = prev n i
step On n i = next n i

abbrev pub opposite : Direction → Direction
opposite Back = On
opposite On = Back

-- the corner that a walk of at most k steps comes to
abbrev pub corner : Direction → ℕ → (ℕ → Point) → ℕ → List ℕ → ℕ → ℕ
corner Back n pt k r i = run_back n pt k r i
corner On n pt k r i = run_on n pt k r i

-- The run of the edge at a.
abbrev pub run_from : ℕ → (ℕ → Point) → List ℕ → ℕ → Run
run_from n pt r a = let a₀ = run_back n pt n r a in record { from = position n a₀; edges = dist n a₀ (run_on n pt n r (next n a)) }

-- a run within a ring of n points
pub record RunIn (n : ℕ) (s : Run) : Type 0 where
  pub size : s.from.size ≡ n
  pub below : s.from.id.0 < n
  pub few : s.edges < n

-- the points of a run, both ends included
abbrev pub points_of : ℕ → Run → List ℕ
points_of n s = stretch n s.from.id.0 (suc s.edges)

-- its edges
abbrev pub edges_of : ℕ → Run → List ℕ
edges_of n s = stretch n s.from.id.0 s.edges

-- the points of two runs
abbrev pub run_points : ℕ → Run → Run → List ℕ
run_points n a b = points_of n a ++ points_of n b

-- their edges
abbrev pub run_edges : ℕ → Run → Run → List ℕ
run_edges n a b = edges_of n a ++ edges_of n b

-- two different edges that meet, on one line
pub record Folded (n : ℕ) (pt : ℕ → Point) (r : List ℕ) (a b : ℕ) : Type 0 where
  pub apart : a ≢ b
  pub one_line : flat n pt r a b ≡ true
  pub meet : meets (pt_at pt r a) (pt_at pt r (next n a)) (pt_at pt r b) (pt_at pt r (next n b)) ≡ true
