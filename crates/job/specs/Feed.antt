-- Feed: of an edge, metered along the line; of a loop, the sum over its edges.
use Rattle.std.specs.Prelude.{◌≡◌, List, ◌++◌, ℕ, ◌≤◌, ◌<◌, length, take, drop, ℤ}
use Rattle.algebra.specs.Counting.{count_p}
use Rattle.algebra.specs.Sums.{sum_to}
use Rattle.integer_root.specs.Root.{Root, root}
use Rattle.geometry.specs.Plane.{Point, squared_distance}
use Rattle.geometry.specs.Lent.{Here}
use Rattle.index_edge.specs.Edge.{Edge, eq_edge}
use Rattle.polygon.specs.Ring.{next, at}
use Rattle.polygon.specs.Edges.{edges}

-- f is the feed from a to b: the greatest whole number with f×f at most dx×dx + dy×dy.
abbrev pub IsFeed : Point → Point → ℕ → Type 0
IsFeed a b f = Root (squared_distance a b) f

-- That number by computation (feed_is, feed_only).
unfoldable pub feed_between : Point → Point → ℕ
feed_between a b = root (squared_distance a b)

-- the edge from ring position i to the next
unfoldable pub edge_feed : (ℕ → Point) → List ℕ → ℕ → ℕ
edge_feed pt ring i = feed_between (pt (at ring i)) (pt (at ring (next (length ring) i)))

-- The feed of a loop: the sum over its edges.
abbrev pub feed_of : (ℕ → Point) → List ℕ → ℕ
feed_of pt ring = sum_to (edge_feed pt ring) (length ring)

-- Two loops with the same edges in any order: every edge occurs equally often among the edges of both.
abbrev pub SameEdges : (r s : List ℕ) → Type 0
SameEdges r s = (e : Edge) → count_p (eq_edge e) (edges (length r) r) ≡ count_p (eq_edge e) (edges (length s) s)

-- The loop started at position k.
abbrev pub started_at : ℕ → List ℕ → List ℕ
started_at k r = drop k r ++ take k r

-- A loop whose feed and points can be told: at most 256 positions, and every point that it names is lent and within the limits.
pub record Drawn (x y : List ℤ) (ring : List ℕ) : Type 0 where
  pub few : length ring ≤ 256
  pub here : (k : ℕ) → k < length ring → Here x y (at ring k)
