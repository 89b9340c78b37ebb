-- The feed of an edge is the one number that `IsFeed` describes; what room it needs; and the feed of a loop, one edge after the other.
use mathlib.Core.Path.{◌≡◌, refl, sym, ap}
use mathlib.Core.List.{List}
use mathlib.Core.Logic.{◌≢◌}
use Prim.Native.Nat.{ℕ, ◌≤◌, ◌<◌}
use native.Mathlib.Omega.{arith}
use lib.IntN.{ℤ, pos, negsuc}
use Rattle.integer_root.specs.Root.{root, root_to}
use Rattle.integer_root.proofs.Roots.{root_is, root_only, root_below, root_greatest}
use Rattle.geometry.specs.Plane.{Point, squared_distance}
use Rattle.geometry.specs.Lent.{InRange, Lent}
use Rattle.geometry.proofs.Reading.{here}
use Rattle.geometry.proofs.Distances.{distance_back, distance_small, distance_some}
use Rattle.polygon.specs.Ring.{next, at, IsRing}
use Rattle.polygon.proofs.Positions.{next_lt, next_not}
use Rattle.job.specs.Feed.{IsFeed, feed_between, edge_feed, Drawn}

-- ---- rows
abbrev point : ℤ → ℤ → Point
point a b = record { x = a; y = b }

-- 3 by 4 steps give 5, also backwards; 2 by 2, whose square is one below 9, give 2, and 1 by 3, one above 9, give 3; from one corner of the range to the other
pub rows : (feed_between (point (pos 0) (pos 0)) (point (pos 3) (pos 4)) ≡ 5) × (feed_between (point (pos 3) (negsuc 3)) (point (pos 0) (pos 0)) ≡ 5)
    × (feed_between (point (pos 1) (pos 1)) (point (pos 3) (pos 3)) ≡ 2) × (feed_between (point (pos 1) (pos 1)) (point (pos 0) (pos 4)) ≡ 3)
    × (feed_between (point (negsuc 999999999) (negsuc 999999999)) (point (pos 1000000000) (pos 1000000000)) ≡ 2828427124)
unfolding feed_between squared_distance root root_to
rows = (refl, refl, refl, refl, refl)

-- ---- the feed of an edge
pub feed_is : (a b : Point) → IsFeed a b (feed_between a b)
unfolding feed_between
feed_is a b = root_is (squared_distance a b)

pub feed_only : (a b : Point) (f : ℕ) → IsFeed a b f → f ≡ feed_between a b
unfolding feed_between
feed_only a b f h = root_only (squared_distance a b) f h

-- as the code computes it
pub feed_by : (a b : Point) {v r : ℕ} → v ≡ squared_distance a b → r ≡ root v → r ≡ feed_between a b
unfolding feed_between
feed_by a b e g = rw (← e) g

-- either way along an edge
pub feed_back : (a b : Point) → feed_between a b ≡ feed_between b a
unfolding feed_between
feed_back a b = ap root (distance_back a b)

-- room: 2,828,427,125 is the first number whose square is above 8×10¹⁸
pub feed_small : {a b : Point} → InRange a → InRange b → feed_between a b < 2828427125
unfolding feed_between
feed_small {a} {b} h k = root_below (squared_distance a b) 2828427125 (omega (arith, distance_small h k))

pub feed_some : (a b : Point) → a ≢ b → 1 ≤ feed_between a b
unfolding feed_between
feed_some a b h = root_greatest (squared_distance a b) (root (squared_distance a b)) 1 (root_is (squared_distance a b)) (omega (arith, distance_some a b h))

-- no edge of a loop over different points has equal ends: each has some feed
pub edge_some : (n : ℕ) (pt : ℕ → Point) (r : List ℕ) → 2 ≤ n → IsRing n r → ((i j : ℕ) → i < n → j < n → pt i ≡ pt j → i ≡ j) → (i : ℕ) → i < n → 1 ≤ edge_feed pt r i
unfolding edge_feed
edge_some n pt r two ring differ i l =
    rw ring.len
    (feed_some (pt (at r i)) (pt (at r (next n i))) (λ e.
    let j = next_lt n i l in
    let same : i ≡ next n i = ring.apart i (next n i) l j (differ (at r i) (at r (next n i)) (ring.below i l) (ring.below (next n i) j) e) in
    next_not n i two l (sym same)))

-- ---- what can be told
-- a ring names only points that are lent
pub ring_drawn : (n : ℕ) (x y : List ℤ) (l : List ℕ) → Lent n x y → IsRing n l → Drawn x y l
ring_drawn n x y l h g = record { few = omega (arith, h.few, g.len); here = λ k b. here h (g.below k (omega (arith, g.len))) }
