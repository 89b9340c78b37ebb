-- What `tourjob` prints of a number, a line of `makejob` reads back as that number.
use mathlib.Core.Path.{◌≡◌, refl, ap, ◌∙◌}
use mathlib.Core.Bool.{true, false}
use mathlib.Core.List.{List, [], ◌∷◌}
use Prim.Native.Nat.{ℕ, suc, ◌^◌, ◌≤◌, ◌<◌}
use native.Mathlib.Omega.{arith}
use lib.ListN.{length}
use lib.IntN.{ℤ, pos, negsuc}
use lib.Signed.{mag}
use borrow.Author.Tests.{lt-ltb, le-leb, leb-true, ne_eqb}
use Rattle.algebra.specs.Cases.{both, le_cases, and_left}
use Rattle.job.specs.Decimal.{decimal, integer, is_digit, all_digits}
use Rattle.job.proofs.Decimals.{decimal_right, length_small, length_more}
use Rattle.board_text.specs.Numbers.{number, natural, minus_first, coordinate}
use Rattle.board_text.proofs.Capped.{natural_digits}

-- a minus sign is no digit
digits_plain : (l : List ℕ) → all_digits l ≡ true → minus_first l ≡ false
digits_plain [] h = refl
digits_plain (a ∷ l) h =
    let digit = and_left (is_digit a) (all_digits l) h in
    let low = leb-true 48 a (and_left _ _ digit) in
    ne_eqb a 45 (λ e. omega arith)

-- a number has a digit
some_digit : (n : ℕ) → n < 10 ^ 20 → length (decimal n) ≡ 0 → ⊥
some_digit n h e =
    both (le_cases 10 n)
    (λ g. omega (arith, length_more n g.0 h))
    (λ g. omega (arith, length_small n g.0))

natural_back : (n : ℕ) → n < 10 ^ 20 → natural (decimal n) ≡ number n
natural_back n h =
    let r = decimal_right n h in
    natural_digits (decimal n) (some_digit n h) r.1 ∙ ap number r.0

pub coordinate_back : (z : ℤ) → mag z < 2 ^ 31 → coordinate (integer z) ≡ number z
unfolding integer
coordinate_back (pos n) h =
    let k : n < 10 ^ 20 = omega arith in
    rw (digits_plain (decimal n) (decimal_right n k).1, natural_back n k, lt-ltb n (2 ^ 31) h)
coordinate_back (negsuc n) h =
    let k : suc n < 10 ^ 20 = omega arith in
    let low : suc n ≤ 2 ^ 31 = omega arith in
    rw (natural_back (suc n) k, le-leb (suc n) (2 ^ 31) low)
