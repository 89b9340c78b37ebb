-- Texts as lists of ASCII codes.
use Rattle.std.specs.Prelude.{List, [] as none, ◌∷◌ as cons, ℕ}
use Prim.Native.Char.{code}
use Prim.Native.String.{String, [], ◌∷◌}

abbrev pub ascii : String → List ℕ
ascii [] = none
ascii (c ∷ s) = cons (code c) (ascii s)
