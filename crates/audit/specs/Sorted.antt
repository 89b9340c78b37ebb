-- The ages of records, in rising order.
use Rattle.std.specs.Prelude.{◌≡◌, Bool, List, ℕ, ◌≤◌, ◌<◌, length, get_or}
use Rattle.algebra.specs.Counting.{count_p}
use Rattle.intersection_set.specs.Store.{Rec}

-- the list l has the ages of the records d, each as often as they do, and none is less than the one before it
pub record Sorted (d : List Rec) (l : List ℕ) : Type 0 where
  pub size : length l ≡ length d
  pub same : (p : ℕ → Bool) → count_p p l ≡ count_p (λ r. p r.age) d
  pub rising : (i j : ℕ) → i ≤ j → j < length l → get_or l i 0 ≤ get_or l j 0
