-- What a move does to the ring: the edges that it cuts, those that it lays, and the ring after it.
use Rattle.std.specs.Prelude.{Bool, true, false, List, [], ◌∷◌, ◌≢◌, ℕ, ◌<◌}
use Rattle.index_edge.specs.Edge.{Edge, edge}
use Rattle.polygon.specs.Ring.{next, prev, at, reversed, joined}
use Rattle.polygon.specs.Edges.{edge_at}

pub data Plan : Type 0 where
  -- nothing to do
  stay : Plan
  -- the edges at positions a and b are uncrossed
  uncross : ℕ → ℕ → Plan
  -- the point at k is hoisted into the edge at p
  hoist : ℕ → ℕ → Plan

abbrev pub by_hoist : Plan → Bool
by_hoist stay = false
by_hoist (uncross a b) = false
by_hoist (hoist k p) = true

-- the edges cut, in the order of their removal
abbrev pub cut : ℕ → Plan → List ℕ → List Edge
cut n stay r = []
cut n (uncross a b) r = edge_at n r a ∷ edge_at n r b ∷ []
cut n (hoist k p) r = edge_at n r (prev n k) ∷ edge_at n r k ∷ edge_at n r p ∷ []

-- the edges laid, in the order of their search
abbrev pub lay : ℕ → Plan → List ℕ → List Edge
lay n stay r = []
lay n (uncross a b) r = edge (at r a) (at r b) ∷ edge (at r (next n a)) (at r (next n b)) ∷ []
lay n (hoist k p) r = edge (at r (prev n k)) (at r (next n k)) ∷ edge (at r p) (at r k) ∷ edge (at r k) (at r (next n p)) ∷ []

-- the ring after the move
abbrev pub turned : ℕ → Plan → List ℕ → List ℕ
turned n stay r = r
turned n (uncross a b) r = reversed n r (next n a) b
turned n (hoist k p) r = joined n r p k

-- ---- what a plan asks of its positions
-- two edges that are no neighbours
pub record Crossed (n a b : ℕ) : Type 0 where
  pub la : a < n
  pub lb : b < n
  pub ab : a ≢ b
  pub not_on : next n a ≢ b
  pub not_back : next n b ≢ a

-- a point that is no end of the edge
pub record Hung (n k p : ℕ) : Type 0 where
  pub lk : k < n
  pub lp : p < n
  pub kp : k ≢ p
  pub not_on : k ≢ next n p

abbrev pub Fits : ℕ → Plan → Type 0
Fits n stay = Unit {0}
Fits n (uncross a b) = Crossed n a b
Fits n (hoist k p) = Hung n k p
