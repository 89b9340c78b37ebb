-- A refusal but 8 is told by its line.
use mathlib.Core.Path.{◌≡◌, refl}
use mathlib.Core.List.{List}
use Prim.Native.Nat.{ℕ}
use Rattle.geometry.specs.Plane.{Point}
use Rattle.index_edge.specs.Edge.{Edge}
use Rattle.refusal.specs.declared.Refusal.{Refusal}
use Rattle.refusal.specs.declared.Refusal.TheVariants.{PicksUsedUp}
use Rattle.refusal.specs.Number.{number_of}
use Rattle.job.specs.Text.{refused_line}
use Rattle.two_opt.specs.Entry.{refusal_of}
use Rattle.tour.specs.Printed.{told}

pub told_refusal : (r : Refusal) → ((moves left : ℕ) → r ≡ PicksUsedUp moves left → ⊥) → (pt : ℕ → Point) (count : Edge → ℕ) (ring : List ℕ)
    → told pt count (refusal_of r ring) ≡ refused_line (number_of r)
unfolding told
told_refusal (PicksUsedUp moves left) h pt count ring = absurd (h moves left refl)
told_refusal r h pt count ring = refl
