-- What a writer has written.
use Rattle.std.specs.Prelude.{◌≡◌, List, ℕ, ◌+◌, ◌≤◌, length}
use Rattle.job.specs.Buffers.{Put}
use Rattle.job.specs.declared.writer.Writer.{Writer}

-- From w to w' the bytes t were written behind those that stood there, into the same buffer.
pub record Wrote (w w' : Writer) (t : List ℕ) : Type 0 where
  pub same : w'.out.ghost_name ≡ w.out.ghost_name
  pub long : length w'.out.now ≡ length w.out.now
  pub text : Put w.out.now w.at t w'.at w'.out.now

-- n bytes fit behind what was written
abbrev pub HasRoom : Writer → ℕ → Type 0
HasRoom w n = w.at + n ≤ length w.out.now
