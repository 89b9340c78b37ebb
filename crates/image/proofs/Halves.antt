-- The bytes of 16-bit words: how many there are, and that they read back as the words.
use Rattle.std.proofs.Common.{◌≡◌, refl, ap, ◌∙◌, List, [], ◌∷◌, ◌++◌, ℕ, zero, suc, ◌+◌, ◌*◌, ◌/◌, ◌%◌, ◌^◌, ◌<◌, length, get_or, take, w16, arith, add-one}
use Rattle.std.proofs.Math.Seq.{take-suc}
use Rattle.std.specs.Int.{to_le_bytes}
use Rattle.job.proofs.Written.{table, table_next}
use Rattle.image.specs.Halves.{half, half_bytes, halves_of}

-- the library's bytes of a word
pub le_half : (v : ℕ) → v < 2 ^ 16 → to_le_bytes w16 v ≡ half_bytes v
unfolding half_bytes
le_half v h = let second : v / 256 % 256 ≡ v / 256 = omega arith in rw second

pub length_halves : (vs : List ℕ) → length (halves_of vs) ≡ 2 * length vs
unfolding halves_of half_bytes
length_halves [] = refl
length_halves (v ∷ vs) = omega (arith, length_halves vs)

halves_append : (a b : List ℕ) → halves_of (a ++ b) ≡ halves_of a ++ halves_of b
unfolding halves_of half_bytes
halves_append [] b = refl
halves_append (v ∷ a) b = ap (λ l. half_bytes v ++ l) (halves_append a b)

-- a word more
pub halves_next : (vs : List ℕ) (i : ℕ) → i < length vs → halves_of (take (i + 1) vs) ≡ halves_of (take i vs) ++ half_bytes (get_or vs i 0)
unfolding halves_of half_bytes
halves_next vs i h = rw (add-one, take-suc vs i 0 h) (halves_append (take i vs) _)

-- reading word i of the bytes of words gives word i
pub halves_read : (vs : List ℕ) (i : ℕ) → i < length vs → half (halves_of vs) (2 * i) ≡ get_or vs i 0
unfolding half halves_of half_bytes
halves_read [] i h = absurd (omega arith)
halves_read (v ∷ vs) zero h = omega arith
halves_read (v ∷ vs) (suc i) h =
    let e₀ : 2 * suc i ≡ suc (suc (2 * i)) = omega arith in
    let e₁ : 2 * suc i + 1 ≡ suc (suc (2 * i + 1)) = omega arith in
    let g : i < length vs = omega arith in
    rw (e₁, e₀) (halves_read vs i g)

-- a table grows by one entry
pub table_more : {A : Type 0} (f : ℕ → A) (i : ℕ) → table f (i + 1) ≡ table f i ++ (f i ∷ [])
table_more f i = ap (table f) (add-one i) ∙ table_next f i

-- and the bytes of its words by one word
pub halves_more : (f : ℕ → ℕ) (i : ℕ) → halves_of (table f (i + 1)) ≡ halves_of (table f i) ++ half_bytes (f i)
unfolding halves_of half_bytes
halves_more f i = ap halves_of (table_more f i) ∙ halves_append (table f i) (f i ∷ [])
