-- 16-bit words of a list of bytes.
use Rattle.std.specs.Prelude.{List, [], ◌∷◌, ◌++◌, ℕ, ◌+◌, ◌*◌, ◌/◌, ◌%◌, get_or}

-- the unsigned 16-bit word whose two bytes start at i, the lowest first
unfoldable pub half : List ℕ → ℕ → ℕ
half l i = get_or l i 0 + 256 * get_or l (i + 1) 0

-- the two bytes of a word, the lowest first
unfoldable pub half_bytes : ℕ → List ℕ
half_bytes v = (v % 256) ∷ (v / 256) ∷ []

-- the bytes of words, one after the other
unfoldable pub halves_of : List ℕ → List ℕ
halves_of [] = []
halves_of (v ∷ vs) = half_bytes v ++ halves_of vs
