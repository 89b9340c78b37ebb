-- The encoder's bytes: their length, the steps by which they are written, and when there is a job.
use Rattle.std.proofs.Common.{◌≡◌, refl, sym, ap, ◌∙◌, Some, List, [], ◌∷◌, ◌++◌, ℕ, zero, suc, ◌+◌, ◌*◌, ◌≤◌, length, take, drop, ℤ, arith, add-one, length-append}
use lib.Seq.{take-append_seam}
use Rattle.geometry.specs.Lent.{coord}
use Rattle.job.specs.Words.{bytes_of, bits_of}
use Rattle.job.specs.Encoded.{header, pairs, job_of, job_length, Fitting, Made}
use Rattle.job.proofs.Written.{put_is, length_put}
use Rattle.job.proofs.Bytes.{length_bytes, bytes_append}

-- ---- how long the parts are
pub length_pairs : (x y : List ℤ) (n : ℕ) → length (pairs x y n) ≡ 2 * n
unfolding pairs
length_pairs x y zero = refl
length_pairs x y (suc n) = rw length-append (omega (arith, length_pairs x y n))

pub length_job : (x y : List ℤ) (picks : List ℕ) → length (job_of x y picks) ≡ 20 + 8 * length x + 4 * length picks
unfolding job_of header
length_job x y picks = rw length_bytes (omega (arith, length_pairs x y (length x), length-append (pairs x y (length x)) picks))

-- ---- the steps by which they are written
pub pairs_next : (x y : List ℤ) (n : ℕ) → bytes_of (pairs x y (n + 1)) ≡ bytes_of (pairs x y n) ++ bytes_of (bits_of (coord x n) ∷ bits_of (coord y n) ∷ [])
unfolding pairs
pairs_next x y n = rw add-one (bytes_append (pairs x y n) _)

pub job_is : (x y : List ℤ) (picks : List ℕ) → job_of x y picks ≡ bytes_of (header (length x) (length picks)) ++ (bytes_of (pairs x y (length x)) ++ bytes_of picks)
unfolding job_of
job_is x y picks = bytes_append (header (length x) (length picks)) _ ∙ ap (λ l. bytes_of (header (length x) (length picks)) ++ l) (bytes_append (pairs x y (length x)) picks)

-- ---- when there is a job
pub fitting : (n ny m room t : ℕ) → job_length n ny m room ≡ Some t → Fitting n ny m room t
unfolding job_length
fitting n ny m room t h = record { same = grind arith; few = grind arith; short = grind arith; fits = grind arith; is = grind arith }

pub fitted : (n ny m room t : ℕ) → Fitting n ny m room t → job_length n ny m room ≡ Some t
unfolding job_length
fitted n ny m room t f = grind arith

-- the job stands at the buffer's start
pub made_job : {x y : List ℤ} {picks out out' : List ℕ} {r : ℕ} → Made x y picks out (Some r) out' → take r out' ≡ job_of x y picks
made_job {x} {y} {picks} {out} {out'} {r} g =
    let f = fitting (length x) (length y) (length picks) (length out) r (sym g.answer) in
    let e : r ≡ length (job_of x y picks) = omega (arith, length_job x y picks, f.is) in
    let room : 0 + length (job_of x y picks) ≤ length out = omega (arith, f.fits) in
    rw (g.bytes, put_is out 0 (job_of x y picks) room, e) (take-append_seam (job_of x y picks) (drop (0 + length (job_of x y picks)) out))

-- and fits it
pub made_length : {x y : List ℤ} {picks out out' : List ℕ} {r : ℕ} → Made x y picks out (Some r) out' → (r ≤ length out') × (r ≤ 16384)
made_length {x} {y} {picks} {out} {out'} {r} g =
    let f = fitting (length x) (length y) (length picks) (length out) r (sym g.answer) in
    (omega (arith, f.fits, ap length g.bytes ∙ length_put out 0 (job_of x y picks)), f.short)
