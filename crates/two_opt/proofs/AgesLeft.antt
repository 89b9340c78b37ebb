-- The ages that an accepted call leaves: what the contract of `two_opt_moves` and `resolve_self_intersections` says of them.
use mathlib.Core.Path.{◌≡◌}
use mathlib.Core.List.{List}
use Prim.Native.Nat.{ℕ, ◌<◌}
use native.Mathlib.Omega.{arith}
use borrow.Author.Tests.{ltb-false}
use lib.IntN.{ℤ}
use lib.ListN.{length, get_or}
use Rattle.geometry.specs.Plane.{Point}
use Rattle.geometry.specs.Lent.{points}
use Rattle.intersection_set.specs.Store.{Store, no_rec}
use Rattle.intersection_set.specs.Numbered.{Numbered}
use Rattle.intersection_set.specs.Pool.{Buffers}
use Rattle.intersection_set.specs.Holds.{Each, AgedIn}
use Rattle.intersection_set.proofs.Ages.{OlderNext, OwnAges, live_ages_differ, ages_fall_first, ages_fall_second}
use Rattle.machine.specs.Machine.{begin, after, place}
use Rattle.machine.specs.Answer.{Answer, too_many}
use Rattle.machine.proofs.Accepted.{accepted, place_picks}
use Rattle.machine.proofs.Pushes.{ages_fit}
use Rattle.machine.proofs.Ready.{begin_ready, run_ready}
use Rattle.two_opt.specs.Entry.{Loan, front, short_of, first_refusal, Entry}

-- The buffers b hold the ages of the records of s.
pub record AgesLeft (b : Buffers) (s : Store) : Type 0 where
  -- each live slot that of its record, which is below 2³²
  pub each : Each (AgedIn b.ages) s.dense
  pub fit : (k : ℕ) → k < length s.dense → get_or b.ages (get_or s.dense k no_rec).slot 0 < 4294967296
  -- no two the same, and the next record along an edge's list is older
  pub differ : OwnAges b s
  pub along_first : OlderNext (λ k. k.x0) b s
  pub along_second : OlderNext (λ k. k.x1) b s

pub entry_ages : {n : ℕ} {x y : List ℤ} {r cs : List ℕ} {was is : Loan} {a : Answer} → Entry n x y r cs was is a → first_refusal n x y r cs was ≡ 0
    → AgesLeft (front n is).records (after n (points x y) place cs r).now.store
entry_ages {n} {x} {y} {r} {cs} {was} {is} e passed =
    let pt : ℕ → Point = points x y in
    let s : Store = (after n pt place cs r).now.store in
    let b : Buffers = (front n is).records in
    let shows = (e.ended passed).shows in
    let ok = (accepted n pt (short_of n x y was) (too_many cs) r).0 passed in
    let numbered : Numbered s = (run_ready n pt ok.board (begin n pt r).now (begin_ready n pt ok.board r ok.ring) place place_picks cs).numbered in
    let few = ltb-false 1000000 (length cs) ok.few_picks in
    record {
      each = shows.ages;
      fit = λ k h. omega (arith, shows.ages k h, ages_fit n pt ok.board place place_picks r cs ok.ring ok.few few k h);
      differ = live_ages_differ n b s numbered shows;
      along_first = ages_fall_first n b s numbered shows;
      along_second = ages_fall_second n b s numbered shows;
    }
