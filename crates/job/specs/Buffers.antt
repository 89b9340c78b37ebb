-- Lent buffers of which a part is written.
use Rattle.std.specs.Prelude.{◌≡◌, List, ◌++◌, map, ℕ, ◌+◌, length, drop}
use Rattle.std.proofs.lemmas.List.Edits.{sets}
use Rattle.algebra.specs.Ranges.{up_from}

-- l with f 0, f 1, .., f (n - 1) as its first n entries, and the others as they are
unfoldable pub over : {A : Type 0} → List A → (ℕ → A) → ℕ → List A
over l f n = map f (up_from 0 n) ++ drop n l

-- l with the bytes of t from place i on, and the others as they are
unfoldable pub put : List ℕ → ℕ → List ℕ → List ℕ
put l i t = sets l i t

-- What a function answers and leaves that writes t into l at place i: the place behind t, and the buffer.
pub record Put (l : List ℕ) (i : ℕ) (t : List ℕ) (r : ℕ) (l' : List ℕ) : Type 0 where
  pub next : r ≡ i + length t
  pub text : l' ≡ put l i t
