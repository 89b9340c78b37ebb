-- An edge between two point numbers: an unordered pair, the smaller number first.
use Rattle.std.specs.Prelude.{Bool, false, ◌&&◌, ◌||◌, cond, List, [], ◌∷◌, ℕ, eqb, ltb}

pub record Edge : Type 0 where
  pub lo : ℕ
  pub hi : ℕ

-- The edge of two numbers, in either order.
abbrev pub edge : ℕ → ℕ → Edge
edge a b = cond (ltb a b) (record { lo = a; hi = b }) (record { lo = b; hi = a })

abbrev pub eq_edge : Edge → Edge → Bool
eq_edge e f = eqb e.lo f.lo && eqb e.hi f.hi

-- Edges compare by first, then second number.
abbrev pub lt_edge : Edge → Edge → Bool
lt_edge e f = ltb e.lo f.lo || (eqb e.lo f.lo && ltb e.hi f.hi)

abbrev pub edge_in : Edge → List Edge → Bool
edge_in e [] = false
edge_in e (f ∷ l) = eq_edge e f || edge_in e l
