-- Past the checks 1 and 2 the first fault is that of the ring's first n entries.
use mathlib.Core.Path.{◌≡◌, refl, ap, ◌∙◌}
use mathlib.Core.List.{List}
use mathlib.Core.Option.{Option}
use Prim.Native.Nat.{ℕ, ◌≤◌, ◌<◌}
use native.Mathlib.Omega.{arith}
use lib.ListN.{length, take, length-take}
use lib.Seq.{length-take-le}
use borrow.Author.Tests.{lt-ltb, le-ltb}
use Rattle.geometry.specs.Answers.{answered, refused}
use Rattle.polygon.specs.Ring.{first_fault}
use Rattle.host.specs.Numbers.{ring_fault}
use Rattle.host.proofs.ring_fault.ring_fault.Goals as goal

-- a line for each way out
module _ (n : ℕ) (r : List ℕ) where
  told_many : 256 < n → refused 1 ≡ ring_fault n r
  unfolding ring_fault
  told_many h = rw (lt-ltb 256 n h) refl

  module _ (few : n ≤ 256) where
    told_short : length r < n → refused 2 ≡ ring_fault n r
    unfolding ring_fault
    told_short h = rw (le-ltb 256 n few, lt-ltb (length r) n h) refl

    told_fault : n ≤ length r → {o : Option ℕ} → o ≡ first_fault n (take n r) → answered o ≡ ring_fault n r
    unfolding ring_fault
    told_fault h f = rw (le-ltb 256 n few, le-ltb (length r) n h) (ap answered f)

pub returns-then-n-gt256 : goal.returns-then-n-gt256
returns-then-n-gt256 c = let a = c.args in told_many a.n a.ring.now (omega (arith, c.if-n-gt256.true))

pub returns-then-ring-n : goal.returns-then-ring-n
returns-then-ring-n c = let a = c.args in told_short a.n a.ring.now (omega (arith, c.if-n-gt256.false)) c.if-ring-n.true

pub first_fault-requires : goal.first_fault-requires
first_fault-requires c = simp length-take (omega arith)

pub returns : goal.returns
returns c =
    let a = c.args in
    let enough = c.if-ring-n.false in
    told_fault a.n a.ring.now c.if-n-gt256.false enough
    (c.first_fault.ensures ∙ ap (λ k. first_fault k (take a.n a.ring.now)) (length-take-le a.n a.ring.now enough))
