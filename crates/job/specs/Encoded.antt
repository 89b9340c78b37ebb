-- The job file that the encoder writes: the five words, the points, the picks, with no gap.
use Rattle.std.specs.Prelude.{◌≡◌, not, cond, List, [], ◌∷◌, ◌++◌, ℕ, zero, suc, ◌+◌, ◌*◌, ◌≤◌, ltb, eqb, length, ℤ, Option, Some, None, is_some}
use Rattle.geometry.specs.Lent.{coord}
use Rattle.job.specs.Words.{bits_of, bytes_of}
use Rattle.job.specs.Buffers.{put}

-- the five words of n points and m picks
unfoldable pub header : ℕ → ℕ → List ℕ
header n m = n ∷ 20 ∷ m ∷ (20 + 8 * n) ∷ (20 + 8 * n + 4 * m) ∷ []

-- x and y of the first n points, in turn
unfoldable pub pairs : List ℤ → List ℤ → ℕ → List ℕ
pairs x y zero = []
pairs x y (suc n) = pairs x y n ++ (bits_of (coord x n) ∷ bits_of (coord y n) ∷ [])

-- the job of the points x, y in micrometres and the picks
unfoldable pub job_of : List ℤ → List ℤ → List ℕ → List ℕ
job_of x y picks = bytes_of (header (length x) (length picks) ++ (pairs x y (length x) ++ picks))

-- Its length, or no job where x and y differ in length, for more than 48 points, and for a job past 16,384 bytes or the buffer's room.
unfoldable pub job_length : (nx ny picks room : ℕ) → Option ℕ
job_length nx ny picks room =
    cond (not (eqb ny nx)) None
    (cond (ltb 48 nx) None
    (cond (ltb 16384 (20 + 8 * nx + 4 * picks)) None
    (cond (ltb room (20 + 8 * nx + 4 * picks)) None (Some (20 + 8 * nx + 4 * picks)))))

-- what holds of the length t of a job
pub record Fitting (nx ny picks room t : ℕ) : Type 0 where
  pub same : ny ≡ nx
  pub few : nx ≤ 48
  pub short : t ≤ 16384
  pub fits : t ≤ room
  pub is : t ≡ 20 + 8 * nx + 4 * picks

-- What the encoder answers and leaves: the job at the buffer's start, and its length; or none, and the buffer as it was.
pub record Made (x y : List ℤ) (picks out : List ℕ) (r : Option ℕ) (out' : List ℕ) : Type 0 where
  pub answer : r ≡ job_length (length x) (length y) (length picks) (length out)
  pub bytes : out' ≡ cond (is_some r) (put out 0 (job_of x y picks)) out
