-- What the two entries answer, with the refusal numbers, and what they leave in what they were lent.
use Rattle.std.specs.Prelude.{◌≡◌, ◌≢◌, Bool, ◌||◌, ltb, List, [], ◌∷◌, ℕ, ◌-◌, ◌*◌, ℤ, length, take, drop, Result, Ok, Err}
use Rattle.geometry.specs.Lent.{points}
use Rattle.intersection_set.specs.Pool.{Buffers, lent}
use Rattle.machine.specs.Machine.{begin}
use Rattle.machine.specs.Answer.{Answer, refused, unfinished, delivered, refusal, too_many, call}
use Rattle.box_tree.specs.Tree.{ring_tree, tree_size}
use Rattle.resolve.specs.Ended.{Ended}
use Rattle.checks.specs.Checks.{short}
use Rattle.refusal.specs.declared.Refusal.{Refusal}
use Rattle.refusal.specs.declared.Refusal.TheVariants.{PicksUsedUp}
use Rattle.refusal.specs.Number.{number_of}
use Rattle.two_opt.specs.declared.entries.Delivered.{Delivered}

-- A refusal: 8 comes with the ring, the moves made and the records left, any other alone.
abbrev pub refusal_of : Refusal → List ℕ → Answer
refusal_of (PicksUsedUp moves left) ring = unfinished ring moves left
refusal_of r ring = refused (number_of r)

-- The answer that the code's stands for, with the ring that was lent.
abbrev pub answer_of : Result Delivered Refusal → List ℕ → Answer
answer_of (Ok d) ring = delivered ring d.moves d.cross
answer_of (Err r) ring = refusal_of r ring

-- ---- what is lent to be written
pub record Loan : Type 0 where
  pub ring : List ℕ
  pub index : List ℕ
  pub records : Buffers
  pub tree : List ℤ

abbrev pub loan : List ℕ → List ℕ → Buffers → List ℤ → Loan
loan ring index records tree = record { ring = ring; index = index; records = records; tree = tree }

abbrev pub each : (List ℕ → List ℕ) → Buffers → Buffers
each f b = lent (f b.heads) (f b.ends) (f b.links) (f b.ages) (f b.dense) (f b.reverse) (f b.free) (f b.tangles)

-- the entries that check 2 asks for: n of ring and index, n×(n-1) of each buffer of the records, 4×(2n-1) of the tree
abbrev pub front : ℕ → Loan → Loan
front n l = loan (take n l.ring) (take n l.index) (each (take (n * (n - 1))) l.records) (take (tree_size n) l.tree)

-- and those past them
abbrev pub past : ℕ → Loan → Loan
past n l = loan (drop n l.ring) (drop n l.index) (each (drop (n * (n - 1))) l.records) (drop (tree_size n) l.tree)

-- check 2 of a call
abbrev pub ring_sized : List ℤ → List ℤ → Loan → List ℕ
ring_sized x y l = length x ∷ length y ∷ length l.ring ∷ length l.index ∷ []

abbrev pub record_sized : Buffers → List ℕ
record_sized b = length b.heads ∷ length b.ends ∷ length b.links ∷ length b.ages ∷ length b.dense ∷ length b.reverse ∷ length b.free ∷ length b.tangles ∷ []

abbrev pub short_of : ℕ → List ℤ → List ℤ → Loan → Bool
short_of n x y l = short n (ring_sized x y l) (record_sized l.records) || ltb (length l.tree) (tree_size n)

-- ---- a call by the picks cs that was lent `was` and leaves `is`
module _ (n : ℕ) (x y : List ℤ) where
  -- The entries that check 2 asks for hold the machine after the picks, from the ring r.
  abbrev pub Holding : List ℕ → List ℕ → Loan → Type 0
  Holding r cs is = Ended n (points x y) (begin n (points x y) r).now cs (front n is).ring (front n is).index (front n is).records

  -- the number of the first check that refuses it, or 0
  abbrev pub first_refusal : List ℕ → List ℕ → Loan → ℕ
  first_refusal r cs was = refusal n (points x y) (short_of n x y was) (too_many cs) r

  -- What an entry answers and leaves that starts from the ring r: the machine's answer to the call; all as it was if a check refuses, else the machine after
  -- the picks, with the tree built from nothing on the ring that is left; nothing is ever written past what check 2 asks for.
  pub record Entry (r cs : List ℕ) (was is : Loan) (a : Answer) : Type 0 where
    pub answers : a ≡ call n (points x y) (short_of n x y was) r cs
    pub untouched : first_refusal r cs was ≢ 0 → is ≡ was
    pub ended : first_refusal r cs was ≡ 0 → Holding r cs is
    pub tree : first_refusal r cs was ≡ 0 → (front n is).tree ≡ ring_tree n (points x y) (front n is).ring
    pub beyond : past n is ≡ past n was
