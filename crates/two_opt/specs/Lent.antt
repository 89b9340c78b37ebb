-- What a call is lent, in the code's type, and a run over its first entries.
use Rattle.std.specs.Prelude.{◌≡◌, List, [], ◌∷◌, ◌++◌, ℕ, ◌-◌, ◌*◌, ◌≤◌, length, take}
use Rattle.geometry.specs.Plane.{Point}
use Rattle.polygon.specs.Ring.{index_of}
use Rattle.intersection_set.specs.Pool.{lent}
use Rattle.machine.specs.Machine.{State, begin}
use Rattle.box_tree.specs.Tree.{ring_tree, tree_size}
use Rattle.resolve.specs.Ended.{Counted, Ended}
use Rattle.resolve.specs.declared.resolve.Resolved.{Resolved}
use Rattle.two_opt.specs.Entry.{Loan, loan, front, past, record_sized}
use Rattle.two_opt.specs.declared.workspace.Workspace.{Workspace}

-- what its slices hold
abbrev pub loan_of : Workspace → Loan
loan_of w = loan w.ring.now w.index.now (lent w.heads.now w.ends.now w.links.now w.ages.now w.dense.now w.reverse.now w.free.now w.tangles.now) w.tree.now

-- the lengths of what is lent
abbrev pub sizes : Loan → List ℕ
sizes l = length l.ring ∷ length l.index ∷ (record_sized l.records ++ length l.tree ∷ [])

-- The slices are those that were lent, as long as they were.
pub record SameWorkspace (v w : Workspace) : Type 0 where
  pub ring : w.ring.ghost_name ≡ v.ring.ghost_name
  pub index : w.index.ghost_name ≡ v.index.ghost_name
  pub heads : w.heads.ghost_name ≡ v.heads.ghost_name
  pub ends : w.ends.ghost_name ≡ v.ends.ghost_name
  pub links : w.links.ghost_name ≡ v.links.ghost_name
  pub ages : w.ages.ghost_name ≡ v.ages.ghost_name
  pub dense : w.dense.ghost_name ≡ v.dense.ghost_name
  pub reverse : w.reverse.ghost_name ≡ v.reverse.ghost_name
  pub free : w.free.ghost_name ≡ v.free.ghost_name
  pub tangles : w.tangles.ghost_name ≡ v.tangles.ghost_name
  pub tree : w.tree.ghost_name ≡ v.tree.ghost_name
  pub sizes : sizes (loan_of w) ≡ sizes (loan_of v)

-- what is lent is enough for n points
pub record Enough (n : ℕ) (l : Loan) : Type 0 where
  pub in_ring : n ≤ length l.ring
  pub in_index : n ≤ length l.index
  pub in_heads : n * (n - 1) ≤ length l.records.heads
  pub in_ends : n * (n - 1) ≤ length l.records.ends
  pub in_links : n * (n - 1) ≤ length l.records.links
  pub in_ages : n * (n - 1) ≤ length l.records.ages
  pub in_dense : n * (n - 1) ≤ length l.records.dense
  pub in_reverse : n * (n - 1) ≤ length l.records.reverse
  pub in_free : n * (n - 1) ≤ length l.records.free
  pub in_tangles : n * (n - 1) ≤ length l.records.tangles
  pub in_tree : tree_size n ≤ length l.tree

-- The first n entries of ring and index hold the ring r and its index. The rest is as it was, and still enough.
pub record Starting (n : ℕ) (r : List ℕ) (was is : Loan) : Type 0 where
  pub ring : take n is.ring ≡ r
  pub index : take n is.index ≡ index_of n r
  pub enough : Enough n is
  pub beyond : past n is ≡ past n was

-- A run by the picks cs from the state s, over the first entries of `was`: what it counts, what the first entries of `is` hold, and that the others are as
-- they were.
pub record RanFrom (n : ℕ) (pt : ℕ → Point) (s : State) (cs : List ℕ) (was is : Loan) (r : Resolved) : Type 0 where
  pub counted : Counted n pt s cs r.moves r.cross r.left
  pub ended : Ended n pt s cs (front n is).ring (front n is).index (front n is).records
  pub tree : (front n is).tree ≡ ring_tree n pt (front n is).ring
  pub beyond : past n is ≡ past n was

-- the same from the start of the ring that they hold
abbrev pub RanIn : (n : ℕ) → (ℕ → Point) → List ℕ → Loan → Loan → Resolved → Type 0
RanIn n pt cs was is r = RanFrom n pt (begin n pt (take n was.ring)).now cs was is r
