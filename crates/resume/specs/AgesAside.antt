-- Two states that are the same but for ages and slots.
use Rattle.std.specs.Prelude.{◌≡◌, List, ℕ, ◌<◌, ltb, length, get_or}
use Rattle.intersection_set.specs.Store.{Rec, Store, no_rec}
use Rattle.machine.specs.Machine.{State}

-- the age at a dense place
abbrev pub age_at : List Rec → ℕ → ℕ
age_at d k = (get_or d k no_rec).age

-- The same pairs in the same dense order, and ages that are ordered alike.
pub record Twin (d d' : List Rec) : Type 0 where
  pub count : length d ≡ length d'
  pub first : (k : ℕ) → k < length d → (get_or d k no_rec).e0 ≡ (get_or d' k no_rec).e0
  pub second : (k : ℕ) → k < length d → (get_or d k no_rec).e1 ≡ (get_or d' k no_rec).e1
  pub order : (j k : ℕ) → j < length d → k < length d → ltb (age_at d j) (age_at d k) ≡ ltb (age_at d' j) (age_at d' k)

-- the ages are below the next one
abbrev pub Old : Store → Type 0
Old s = (k : ℕ) → k < length s.dense → age_at s.dense k < s.pushes

-- The same ring and the same records but for ages and slots; in both the ages are below the next one.
pub record SameButAges (s s' : State) : Type 0 where
  pub ring : s.ring ≡ s'.ring
  pub records : Twin s.store.dense s'.store.dense
  pub old : Old s.store
  pub old' : Old s'.store
