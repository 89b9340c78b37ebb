-- A part whose box shares no place with a box has no leaf that does, and what a part finds is what its halves find, one after the other.
use Rattle.std.specs.Prelude.{◌≡◌, false, [], ◌++◌, filter, ℕ, zero, suc, ◌+◌, ◌-◌, ◌/◌, ◌≤◌, length}
use Rattle.std.proofs.Common.{◌∙◌, ap, ap₂, arith}
use Rattle.std.proofs.Math.Nat.{suc-add, add-suc}
use Rattle.std.proofs.lemmas.List.Elements.{filter-append}
use Rattle.std.proofs.lemmas.List.Sums.{length-filter, count_by-le-length}
use Rattle.algebra.specs.Ranges.{up_from, up_from_length}
use Rattle.box_tree.specs.Boxes.{Bounds, unite, share}
use Rattle.box_tree.specs.Query.{near}
use Rattle.box_tree.proofs.Growing.{by_halves, top, top_one, top_more}
use Rattle.box_tree.proofs.Sharing.{share_first, share_second}

-- ---- what the halves find
up_from_append : (i h k : ℕ) → up_from i (h + k) ≡ up_from i h ++ up_from (i + h) k
up_from_append i zero k = grind arith
up_from_append i (suc h) k = cc (up_from_append (suc i) h k, suc-add h k, suc-add i h, add-suc i h)

pub near_halves : (b : Bounds) (f : ℕ → Bounds) (i k : ℕ) → near b f i k ≡ near b f i (k / 2) ++ near b f (i + k / 2) (k - k / 2)
near_halves b f i k =
    let h = k / 2 in
    let e : k ≡ h + (k - h) = omega arith in
    let near_b = λ (j : ℕ). share b (f j) in
    ap (near b f i) e ∙ ap (filter near_b) (up_from_append i h (k - h)) ∙ filter-append near_b (up_from i h) (up_from (i + h) (k - h))

-- at most as many as there are positions
pub near_few : (b : Bounds) (f : ℕ → Bounds) (i k : ℕ) → length (near b f i k) ≤ k
near_few b f i k = omega (arith, length-filter {X = ℕ}, count_by-le-length {X = ℕ}, up_from_length i k)

-- ---- what is left out
-- where a union shares no place, neither part does
apart_parts : (b u v : Bounds) → share b (unite u v) ≡ false → (share b u ≡ false) × (share b v ≡ false)
apart_parts b u v e = (grind (arith, share_first b u v), grind (arith, share_second b u v))

-- Where the box of all shares no place, no position is near.
pub pruned : (b : Bounds) (f : ℕ → Bounds) (i k : ℕ) → 1 ≤ k → share b (top f i k) ≡ false → near b f i k ≡ []
pruned b f =
    by_halves (λ i k. share b (top f i k) ≡ false → near b f i k ≡ [])
    (λ i e. rw (rw (top_one f i) at e))
    (λ i k more p q e. let apart = apart_parts b (top f i (k / 2)) (top f (i + k / 2) (k - k / 2)) (rw (top_more f i k more) at e) in
    near_halves b f i k ∙ ap₂ (λ l r. l ++ r) (p apart.0) (q apart.1))
