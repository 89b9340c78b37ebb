-- The search for a kink and an edge that goes from kink to kink and keeps the best pair so far: that of the first edge in order.
use Rattle.std.specs.Prelude.{◌&&◌, cond, List, [], ◌∷◌, ℕ, suc, ◌-◌, ltb, Option, Some, None}
use Rattle.geometry.specs.Plane.{Point}
use Rattle.polygon.specs.Ring.{stretch}
use Rattle.machine.specs.Board.{kink_at}
use Rattle.machine.specs.Search.{Mergable, none, merge, held_at}
use Rattle.moves.specs.declared.search.Best.{Best}
use Rattle.moves.specs.declared.search.Mergable.{Mergable as Pair}

-- What the search's answer says: a kink and an edge, or none.
abbrev pub mergable_of : Option Pair → Mergable
mergable_of (Some m) = merge m.kink.0 m.edge.0
mergable_of None = none

-- nothing is found yet: all edges are passed
abbrev pub unfound : ℕ → Best
unfound all = record { passed = all; found = None }

-- the kink at k with the edge at p, before which so many edges come
abbrev pub pair_of : ℕ → ℕ → ℕ → Best
pair_of k passed p = record { passed = passed; found = Some (record { kink = record { 0 = k }; edge = record { 0 = p } }) }

module _ (n : ℕ) (pt : ℕ → Point) (r : List ℕ) where
  -- Edges ps, before which i others come: the first that holds the point at k makes the best pair with it, if it comes before the best edge so far.
  abbrev pub better : ℕ → ℕ → List ℕ → Best → Best
  better k i [] b = b
  better k i (p ∷ ps) b = cond (ltb i b.passed && held_at n pt r k p) (pair_of k i p) (better k (suc i) ps b)

  -- along a run, up to whose end `after` edges come, from the edge at p on, before which i come
  abbrev pub looking : ℕ → Best → ℕ → ℕ → ℕ → Best
  looking k b after i p = better k i (stretch n p (after - i)) b

  -- one more point, which counts if it is a kink
  abbrev pub with_kink : List ℕ → ℕ → Best → Best
  with_kink ps k b = cond (kink_at n pt r k) (better k 0 ps b) b

  -- points ks in order
  abbrev pub over_kinks : List ℕ → List ℕ → Best → Best
  over_kinks ps [] b = b
  over_kinks ps (k ∷ ks) b = over_kinks ps ks (with_kink ps k b)
