-- The search of a hoist: the runs of two edges, their kinks, and the first edge that holds one strictly inside.
use Rattle.std.specs.Prelude.{Bool, ◌&&◌, cond, List, [], ◌∷◌, ◌++◌, ℕ, zero, suc}
use Rattle.geometry.specs.Plane.{Point}
use Rattle.geometry.specs.Segment.{inside, parallel}
use Rattle.polygon.specs.Ring.{next, prev, dist, stretch}
use Rattle.polygon.specs.Change.{Plan, stay, uncross, hoist}
use Rattle.machine.specs.Board.{pt_at, is_straight_line, kink_at}

-- The search answers a kink and an edge, each by its position, or none.
pub data Mergable : Type 0 where
  none : Mergable
  merge : ℕ → ℕ → Mergable

abbrev pub or_else : Mergable → Mergable → Mergable
or_else none h = h
or_else (merge k p) h = merge k p

abbrev pub plan_for : Mergable → Plan
plan_for none = stay
plan_for (merge k p) = hoist k p

module _ (n : ℕ) (pt : ℕ → Point) where
  -- back past collinear vertices to a corner, at most so many steps
  abbrev pub run_back : ℕ → List ℕ → ℕ → ℕ
  run_back zero r i = i
  run_back (suc k) r i = let j = run_back k r (prev n i) in cond (is_straight_line n pt r i) j i

  -- on past collinear vertices to a corner
  abbrev pub run_on : ℕ → List ℕ → ℕ → ℕ
  run_on zero r i = i
  run_on (suc k) r i = let j = run_on k r (next n i) in cond (is_straight_line n pt r i) j i

  -- the edge at p holds the point at k strictly inside
  abbrev pub held_at : List ℕ → ℕ → ℕ → Bool
  held_at r k p = inside (pt_at pt r p) (pt_at pt r (next n p)) (pt_at pt r k)

  -- and that is a kink
  abbrev pub kink_in : List ℕ → ℕ → ℕ → Bool
  kink_in r k p = kink_at n pt r k && held_at r k p

  -- the first kink of ks that the edge at p holds
  abbrev pub first_kink : List ℕ → ℕ → List ℕ → Mergable
  first_kink r p [] = none
  first_kink r p (k ∷ ks) = cond (kink_in r k p) (merge k p) (first_kink r p ks)

  -- the first edge of ps that holds one
  abbrev pub search_edges : List ℕ → List ℕ → List ℕ → Mergable
  search_edges r ks [] = none
  search_edges r ks (p ∷ ps) = or_else (first_kink r p ks) (search_edges r ks ps)

  -- Edges of both runs in order, the first that holds a kink strictly inside, with its first such kink.
  abbrev pub kink_and_edge : List ℕ → ℕ → ℕ → Mergable
  kink_and_edge r a b =
      let a₀ = run_back n r a in
      let a₁ = run_on n r (next n a) in
      let b₀ = run_back n r b in
      let b₁ = run_on n r (next n b) in
      search_edges r (stretch n a₀ (suc (dist n a₀ a₁)) ++ stretch n b₀ (suc (dist n b₀ b₁))) (stretch n a₀ (dist n a₀ a₁) ++ stretch n b₀ (dist n b₀ b₁))

  -- the edges at a and b lie on one line
  abbrev pub flat : List ℕ → ℕ → ℕ → Bool
  flat r a b = parallel (pt_at pt r a) (pt_at pt r (next n a)) (pt_at pt r b) (pt_at pt r (next n b))

  -- The move for the recorded edges that start at a and b: all four points collinear, a hoist; else an uncrossing.
  abbrev pub plan_at : List ℕ → ℕ → ℕ → Plan
  plan_at r a b = let h = plan_for (kink_and_edge r a b) in cond (flat r a b) h (uncross a b)
