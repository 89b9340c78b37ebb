-- The points so far are written, and those behind them are left.
use Rattle.std.proofs.Common.{◌≡◌, length, drop}
use Rattle.job.specs.Words.{bytes_of}
use Rattle.job.specs.Encoded.{pairs}
use Rattle.job.specs.Writing.{Wrote}
use Rattle.job.proofs.encoder.put_pairs.Given as goal

abbrev pub invariant-loop-a : goal.invariant-loop-a
invariant-loop-a l = record {
  xs : l.a-iterator.a.rest.now ≡ drop (length l.yielded) l.x;
  ys : l.a-iterator.b.rest.now ≡ drop (length l.yielded) l.y;
  written : Wrote l.initial.w l.w (bytes_of (pairs l.x l.y (length l.yielded)));
}
