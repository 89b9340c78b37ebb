-- The bytes of words: how many there are, and that they read back as the words.
use Rattle.std.proofs.Common.{◌≡◌, refl, ap, List, [], ◌∷◌, ◌++◌, ℕ, zero, suc, ◌+◌, ◌*◌, ◌/◌, ◌%◌, ◌^◌, ◌<◌, length, get_or, take, w32, arith, add-one}
use Rattle.std.proofs.Math.Seq.{take-suc}
use Rattle.std.specs.Int.{to_le_bytes}
use Rattle.job.specs.Words.{word, word_bytes, bytes_of}

-- the library's bytes of a word
pub le_word : (w : ℕ) → w < 2 ^ 32 → to_le_bytes w32 w ≡ word_bytes w
unfolding word_bytes
le_word w h =
    let second : w / 65536 % 256 ≡ w / 256 / 256 % 256 = omega arith in
    let third : w / 16777216 % 256 ≡ w / 256 / 256 / 256 = omega arith in rw (second, third)

pub length_bytes : (ws : List ℕ) → length (bytes_of ws) ≡ 4 * length ws
unfolding bytes_of word_bytes
length_bytes [] = refl
length_bytes (w ∷ ws) = omega (arith, length_bytes ws)

pub bytes_append : (a b : List ℕ) → bytes_of (a ++ b) ≡ bytes_of a ++ bytes_of b
unfolding bytes_of word_bytes
bytes_append [] b = refl
bytes_append (w ∷ a) b = ap (λ l. word_bytes w ++ l) (bytes_append a b)

-- every word is below 2 ^ 32
pub data Small : List ℕ → Type 0 where
  none : Small []
  more : {w : ℕ} {ws : List ℕ} → w < 2 ^ 32 → Small ws → Small (w ∷ ws)

pub small_append : {a b : List ℕ} → Small a → Small b → Small (a ++ b)
small_append none q = q
small_append (more h p) q = more h (small_append p q)

bytes_sum : (w : ℕ) → w % 256 + 256 * (w / 256 % 256) + 65536 * (w / 256 / 256 % 256) + 16777216 * (w / 256 / 256 / 256) ≡ w
bytes_sum w = omega arith

-- reading word i of the bytes of words gives word i
pub word_bytes_lem : (ws : List ℕ) (i : ℕ) → i < length ws → word (bytes_of ws) (4 * i) ≡ get_or ws i 0
unfolding bytes_of word_bytes word
word_bytes_lem [] i h = absurd (omega arith)
word_bytes_lem (w ∷ ws) zero h = bytes_sum w
word_bytes_lem (w ∷ ws) (suc i) h =
    let e₀ : 4 * suc i ≡ suc (suc (suc (suc (4 * i)))) = omega arith in
    let e₁ : 4 * suc i + 1 ≡ suc (suc (suc (suc (4 * i + 1)))) = omega arith in
    let e₂ : 4 * suc i + 2 ≡ suc (suc (suc (suc (4 * i + 2)))) = omega arith in
    let e₃ : 4 * suc i + 3 ≡ suc (suc (suc (suc (4 * i + 3)))) = omega arith in
    let g : i < length ws = omega arith in
    rw (e₁, e₂, e₃, e₀) (word_bytes_lem ws i g)

-- every byte of them is one
pub bytes_of_words : (ws : List ℕ) → Small ws → (i : ℕ) → get_or (bytes_of ws) i 0 < 256
unfolding bytes_of word_bytes
bytes_of_words [] s i = omega arith
bytes_of_words (w ∷ ws) (more h s) zero = omega arith
bytes_of_words (w ∷ ws) (more h s) (suc zero) = omega arith
bytes_of_words (w ∷ ws) (more h s) (suc (suc zero)) = omega arith
bytes_of_words (w ∷ ws) (more h s) (suc (suc (suc zero))) = omega arith
bytes_of_words (w ∷ ws) (more h s) (suc (suc (suc (suc i)))) = bytes_of_words ws s i

-- a word more
pub bytes_next : (ws : List ℕ) (i : ℕ) → i < length ws → bytes_of (take (i + 1) ws) ≡ bytes_of (take i ws) ++ word_bytes (get_or ws i 0)
unfolding bytes_of word_bytes
bytes_next ws i h = rw (add-one, take-suc ws i 0 h) (bytes_append (take i ws) _)
