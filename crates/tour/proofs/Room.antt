-- Check 2 passes where the buffers have room for k points and their records.
use mathlib.Core.Path.{◌≡◌, refl}
use mathlib.Core.Bool.{false}
use mathlib.Core.List.{List, [], ◌∷◌}
use Prim.Native.Nat.{ℕ, ◌*◌, ◌-◌, ◌≤◌}
use native.Mathlib.Omega.{arith}
use lib.IntN.{ℤ}
use lib.ListN.{length}
use borrow.Author.Tests.{le-ltb, ltb-false}
use Rattle.algebra.specs.Cases.{or_parts}
use Rattle.algebra.specs.Size.{mul_bound}
use Rattle.checks.specs.Checks.{any_below}
use Rattle.box_tree.specs.Tree.{tree_size}
use Rattle.two_opt.specs.Entry.{Loan, record_sized, short_of}

-- what is long enough for the greater size is so for the smaller
less_below : (m k : ℕ) (l : List ℕ) → m ≤ k → any_below k l ≡ false → any_below m l ≡ false
less_below m k [] h e = refl
less_below m k (a ∷ l) h e = let p = or_parts _ _ e in rw (le-ltb a m (omega (arith, h, ltb-false a k p.0)), less_below m k l h p.1)

-- k places for the ring and its index, k×(k-1) in each buffer of the records, and 4×(2k-1) for the tree
pub record Roomy (k : ℕ) (l : Loan) : Type 0 where
  pub ring : any_below k (length l.ring ∷ length l.index ∷ []) ≡ false
  pub records : any_below (k * (k - 1)) (record_sized l.records) ≡ false
  pub tree : tree_size k ≤ length l.tree

pub roomy : (k n : ℕ) (x y : List ℤ) (l : Loan) → n ≤ length x → n ≤ length y → n ≤ k → Roomy k l → short_of n x y l ≡ false
roomy k n x y l lx ly h room =
    let b : n * (n - 1) ≤ k * (k - 1) = mul_bound n (n - 1) k (k - 1) h (omega arith) in
    rw (
      le-ltb (length x) n lx,
      le-ltb (length y) n ly,
      less_below n k (length l.ring ∷ length l.index ∷ []) h room.ring,
      less_below (n * (n - 1)) (k * (k - 1)) (record_sized l.records) b room.records,
      le-ltb (length l.tree) (tree_size n) (omega (arith, h, room.tree)),
    )
