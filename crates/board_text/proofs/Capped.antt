-- Numbers are read digit by digit, and told up to a cap that no test of their range sees.
use mathlib.Core.Path.{◌≡◌, refl, ap, ◌∙◌}
use mathlib.Core.Bool.{true, false, ◌&&◌, cond}
use mathlib.Core.List.{List, [], ◌∷◌}
use Prim.Native.Nat.{ℕ, ◌+◌, ◌-◌, ◌*◌, ◌≤◌, min}
use native.Mathlib.Omega.{arith}
use lib.ListN.{length}
use Rattle.std.specs.List.{fold, list_all}
use Rattle.std.specs.Char.{is_ascii_digit}
use Rattle.algebra.specs.Cases.{both, le_cases}
use Rattle.job.specs.Decimal.{is_digit, all_digits, value_from, value}
use Rattle.board_text.specs.Numbers.{malformed, number, natural, cap, shifted}

-- ---- digit by digit
value_grows : (v : ℕ) (l : List ℕ) → v ≤ value_from v l
value_grows v [] = omega arith
value_grows v (d ∷ l) = omega (arith, value_grows (10 * v + (d - 48)) l)

-- a cap on the way changes nothing under the cap
value_capped : (v : ℕ) (l : List ℕ) → min (value_from (min v cap) l) cap ≡ min (value_from v l) cap
value_capped v l =
    both (le_cases v cap)
    (λ h. let e : min v cap ≡ v = omega (arith, h.0) in ap (λ u. min (value_from u l) cap) e)
    (λ h. let e : min v cap ≡ cap = omega (arith, h.0) in rw e (omega (arith, h.0, value_grows cap l, value_grows v l)))

pub value_folds : (l : List ℕ) (v : ℕ) → v ≤ cap → fold shifted v l ≡ min (value_from v l) cap
value_folds [] v h = omega arith
value_folds (d ∷ l) v h = value_folds l (shifted v d) (omega arith) ∙ value_capped (10 * v + (d - 48)) l

pub digits_all : (l : List ℕ) → list_all is_ascii_digit l ≡ all_digits l
digits_all [] = refl
digits_all (d ∷ l) = ap (λ b. is_digit d && b) (digits_all l)

-- ---- a field, by what the code tests
pub natural_none : (l : List ℕ) → length l ≡ 0 → natural l ≡ malformed
natural_none [] h = refl
natural_none (d ∷ l) h = absurd (omega arith)

natural_is : (l : List ℕ) → ¬ (length l ≡ 0) → natural l ≡ cond (all_digits l) (number (value l)) malformed
natural_is [] h = absurd (h refl)
natural_is (d ∷ l) h = refl

pub natural_other : (l : List ℕ) → ¬ (length l ≡ 0) → all_digits l ≡ false → natural l ≡ malformed
natural_other l h e = natural_is l h ∙ ap (λ b. cond b (number (value l)) malformed) e

pub natural_digits : (l : List ℕ) → ¬ (length l ≡ 0) → all_digits l ≡ true → natural l ≡ number (value l)
natural_digits l h e = natural_is l h ∙ ap (λ b. cond b (number (value l)) malformed) e

-- what `read_natural` needs
pub ruleset fields = (digits_all, natural_none, natural_other, natural_digits, value_folds)
