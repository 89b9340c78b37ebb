-- Words of a list of bytes.
use Rattle.std.specs.Prelude.{cond, List, [], ◌∷◌, ◌++◌, ℕ, suc, ◌+◌, ◌-◌, ◌*◌, ◌/◌, ◌%◌, ◌^◌, get_or, ltb, ℤ, pos, negsuc, ◌-ℤ◌}

-- the unsigned 32-bit word whose four bytes start at i, the lowest first
unfoldable pub word : List ℕ → ℕ → ℕ
word l i = get_or l i 0 + 256 * get_or l (i + 1) 0 + 65536 * get_or l (i + 2) 0 + 16777216 * get_or l (i + 3) 0

-- the number that a 32-bit word means in two's complement
unfoldable pub signed : ℕ → ℤ
signed w = cond (ltb w (2 ^ 31)) (pos w) (pos w -ℤ pos (2 ^ 32))

-- ---- the other way
-- the four bytes of a word, the lowest first
unfoldable pub word_bytes : ℕ → List ℕ
word_bytes w = (w % 256) ∷ (w / 256 % 256) ∷ (w / 256 / 256 % 256) ∷ (w / 256 / 256 / 256) ∷ []

-- the bytes of words, one after the other
unfoldable pub bytes_of : List ℕ → List ℕ
bytes_of [] = []
bytes_of (w ∷ ws) = word_bytes w ++ bytes_of ws

-- the 32-bit word that means a number in two's complement
unfoldable pub bits_of : ℤ → ℕ
bits_of (pos n) = n
bits_of (negsuc n) = 2 ^ 32 - suc n
