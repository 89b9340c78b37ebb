-- What is kept of the lines of a board.
use Rattle.std.specs.Prelude.{◌≡◌, ℕ, ◌+◌, ◌*◌, ◌≤◌}

-- The points and picks make a job: as many x as y, at most 48, and at most 16,384 bytes.
pub record Fits (x y picks : ℕ) : Type 0 where
  pub same : y ≡ x
  pub few : x ≤ 48
  pub short : 20 + 8 * x + 4 * picks ≤ 16384
