-- A ring with the counts of the records that name its edges, as it can be told.
use Rattle.std.specs.Prelude.{List, ℕ, ◌-◌, ◌*◌, ◌≤◌, ◌<◌, length}
use Rattle.polygon.specs.Edges.{edge_at}
use Rattle.intersection_set.specs.Within.{Proper}

-- At most 256 positions, each with an edge between two of as many points; and a count for each pair of them in each order, so that every edge has its place.
pub record Tallied (ring tangles : List ℕ) : Type 0 where
  pub few : length ring ≤ 256
  pub proper : (i : ℕ) → i < length ring → Proper (length ring) (edge_at (length ring) ring i)
  pub room : length ring * (length ring - 1) ≤ length tangles
