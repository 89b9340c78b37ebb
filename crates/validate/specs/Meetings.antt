-- Edges of a ring that meet, named by the positions at which they start.
use Rattle.std.specs.Prelude.{◌≡◌, ◌⊎◌, ◌≢◌, List, ℕ, ◌<◌}
use Rattle.geometry.specs.Plane.{Point}
use Rattle.geometry.specs.Segment.{Meet}
use Rattle.polygon.specs.Ring.{next}
use Rattle.machine.specs.Board.{pt_at}

-- the pair a, b comes before i, j: by the first of the two, then by the second
abbrev pub Sooner : ℕ → ℕ → ℕ → ℕ → Type 0
Sooner a b i j = (a < i) ⊎ ((a ≡ i) × (b < j))

module _ (n : ℕ) (pt : ℕ → Point) (r : List ℕ) where
  -- the edges at positions i and j are so related
  abbrev pub EdgesAt : (Point → Point → Point → Point → Type 0) → ℕ → ℕ → Type 0
  EdgesAt R i j = R (pt_at pt r i) (pt_at pt r (next n i)) (pt_at pt r j) (pt_at pt r (next n j))

  -- two different edges are
  pub record TwoEdges (R : Point → Point → Point → Point → Type 0) : Type 0 where
    pub i : ℕ
    pub j : ℕ
    pub first_in : i < n
    pub second_in : j < n
    pub differ : i ≢ j
    pub related : EdgesAt R i j

  -- Some two edges of the ring meet.
  abbrev pub SomeMeet : Type 0
  SomeMeet = TwoEdges Meet

  -- The edges at i and j, i before j, meet, and those of no pair before them do.
  pub record FirstMeeting (i j : ℕ) : Type 0 where
    pub in_order : i < j
    pub within : j < n
    pub meet : EdgesAt Meet i j
    pub none_before : (a b : ℕ) → a < b → b < n → Sooner a b i j → ¬ EdgesAt Meet a b
