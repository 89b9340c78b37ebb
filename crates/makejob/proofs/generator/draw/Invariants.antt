-- The picks so far are drawn, and s is the state behind them.
use Rattle.std.proofs.Common.{◌≡◌, ◌+◌, ◌++◌}
use Rattle.arrayvec.specs.ArrayVec.{array_vec_len}
use Rattle.job.proofs.Written.{table}
use Rattle.makejob.specs.Drawn.{state, drawn}
use Rattle.makejob.proofs.generator.draw.Given as goal

abbrev pub invariant-loop : goal.invariant-loop
invariant-loop l = record {
  at : l.s ≡ state l.seed l.counter;
  items : l.picks.items ≡ l.initial.picks.items ++ table (drawn l.seed) l.counter;
  len : array_vec_len l.picks ≡ array_vec_len l.initial.picks + l.counter;
}
