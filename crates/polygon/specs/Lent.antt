-- The slices that a `Polygon` holds: those that it was lent, whatever is done to it.
use Rattle.std.specs.Prelude.{◌≡◌, List, ℕ}
use Rattle.std.proofs.Common.{MutBor}
use Rattle.polygon.specs.declared.polygon.Polygon.{Polygon}

-- p holds these two slices
abbrev pub Lends : Polygon → MutBor (List ℕ) → MutBor (List ℕ) → Type 0
Lends p ring index = (p.ring.ghost_name ≡ ring.ghost_name) × (p.index.ghost_name ≡ index.ghost_name)

-- q holds the same two slices as p
abbrev pub SameLoans : Polygon → Polygon → Type 0
SameLoans p q = Lends q p.ring p.index
