-- What holds of a ring that passes, or is refused since edges meet: its loop can be told, and so can those edges. And how long what is told is.
use mathlib.Core.Path.{◌≡◌, refl, sym, subst}
use mathlib.Core.Bool.{false}
use mathlib.Core.List.{List, [], ◌∷◌}
use Prim.Native.Nat.{ℕ, ◌≤◌, ◌<◌}
use native.Mathlib.Omega.{arith}
use lib.IntN.{ℤ}
use lib.ListN.{length, take, length-append}
use borrow.Author.Tests.{lt-ltb}
use Rattle.std.proofs.Common.{Err}
use Rattle.std.proofs.lemmas.List.{take_all}
use Rattle.algebra.specs.Ranges.{true_all}
use Rattle.refusal.specs.declared.Refusal.{Refusal}
use Rattle.refusal.specs.declared.Refusal.TheVariants.{EdgesMeet}
use Rattle.refusal.specs.Number.{number_of}
use Rattle.geometry.specs.Plane.{near_point}
use Rattle.geometry.specs.Lent.{points, Lent}
use Rattle.polygon.specs.Ring.{IsRing}
use Rattle.machine.specs.Board.{Board}
use Rattle.machine.proofs.Accepted.{Accepted, accepted}
use Rattle.checks.proofs.Checking.{lent_of, long}
use Rattle.job.specs.Decimal.{digits, decimal}
use Rattle.job.specs.Feed.{Drawn}
use Rattle.job.specs.Text.{refused_line}
use Rattle.job.proofs.Decimals.{length_decimal}
use Rattle.job.proofs.Feeds.{ring_drawn}
use Rattle.validate.specs.Drawn.{Check, refused, meeting, too_short, validated, check_of}
use Rattle.validate.proofs.Passing.{refuses, reached}
use Rattle.validate.proofs.Told.{meeting_first}
use Rattle.drawing.specs.Printed.{passed_line, told, printed}

-- ---- a ring as long as there are points
module _ (x y : List ℤ) (r : List ℕ) where
  abbrev n : ℕ
  n = length r

  whole : take n r ≡ r
  whole = take_all n r (omega arith)

  -- it passed the checks 1 to 6
  module _ {c : Check} (found : c ≡ validated n x y r) (some : refuses c ≡ false) where
    start : Accepted n (points x y) (too_short n x y r) false (take n r)
    unfolding validated
    start = (accepted n (points x y) (too_short n x y r) false (take n r)).0 (reached n (points x y) (take n r) (too_short n x y r) c some (sym found)).start

    pub found_lent : Lent n x y
    found_lent =
        let lengths = length x ∷ length y ∷ length r ∷ [] in
        lent_of start.few (long n lengths start.long 0 (omega arith)) (long n lengths start.long 1 (omega arith)) (true_all n (λ i. near_point (points x y i)) start.range)

    pub found_ring : IsRing n r
    found_ring = subst (IsRing n) whole start.ring

    pub found_board : Board n (points x y)
    found_board = start.board

    pub found_drawn : Drawn x y r
    found_drawn = ring_drawn n x y r found_lent found_ring

  pub found_within : {i j : ℕ} → meeting i j ≡ validated n x y r → (i < n) × (j < n)
  found_within {i} {j} found = let m = meeting_first n x y r i j (sym found) in (omega (arith, m.in_order, m.within), m.within)

-- a refusal but 15 is told by its number
pub found_other : (r : Refusal) → ((first second : ℕ) → r ≡ EdgesMeet first second → ⊥) → check_of (Err r) ≡ refused (number_of r)
found_other (EdgesMeet first second) h = absurd (h first second refl)
found_other r h = refl

-- more pads than 256
pub many_printed : (x y : List ℤ) → 256 < length x → refused_line 1 ≡ printed x y
unfolding printed told validated
many_printed x y h = rw (lt-ltb 256 (length x) h) refl

-- ---- how long the texts are
pub length_passed : (n f : ℕ) → length (passed_line n f) ≤ 50
unfolding passed_line
length_passed n f = simp length-append (omega (arith, length_decimal n, length_decimal f))

pub length_fifteen : length (refused_line 15) ≡ 11
unfolding refused_line decimal digits
length_fifteen = refl

pub length_one : length (refused_line 1) ≡ 10
unfolding refused_line decimal digits
length_one = refl
