-- Demand 3 for the code's own runs: what the contract of `two_opt_moves` and `resolve_self_intersections` says of a call that no check refuses.
use mathlib.Core.Path.{◌≡◌, ◌∙◌}
use mathlib.Core.List.{List}
use Prim.Native.Nat.{ℕ}
use lib.IntN.{ℤ}
use Rattle.geometry.specs.Lent.{points}
use Rattle.machine.specs.Machine.{after, place}
use Rattle.machine.specs.Answer.{Answer, answer}
use Rattle.machine.specs.Demand3.{Demand3}
use Rattle.machine.proofs.Accepted.{demand3_call}
use Rattle.two_opt.specs.Entry.{Loan, short_of, Holding, first_refusal, Entry}

-- An accepted call from the ring r: its answer is that of the machine after the whole list of picks, what was lent holds that machine, and of it
-- the words of demand 3 hold.
pub record Delivers (n : ℕ) (x y : List ℤ) (r cs : List ℕ) (is : Loan) (a : Answer) : Type 0 where
  pub answers : a ≡ answer n (points x y) r (after n (points x y) place cs r)
  pub holding : Holding n x y r cs is
  pub demand3 : Demand3 n (points x y) place cs r

-- `two_opt_moves` with r the ring 0, 1, 2, .., `resolve_self_intersections` with r the first n entries of the lent ring
pub entry_delivers : {n : ℕ} {x y : List ℤ} {r cs : List ℕ} {was is : Loan} {a : Answer} → Entry n x y r cs was is a → first_refusal n x y r cs was ≡ 0 → Delivers n x y r cs is a
entry_delivers {n} {x} {y} {r} {cs} {was} e ok =
    let (same, d) = demand3_call n (points x y) (short_of n x y was) r cs ok in
    record { answers = e.answers ∙ same; holding = e.ended ok; demand3 = d }
