-- An image that can be taken up, and a state that can be saved.
use Rattle.std.specs.Prelude.{List, ℕ, ◌≤◌, eqb, ltb, length}
use Rattle.algebra.specs.Counting.{one, count_p}
use Rattle.geometry.specs.Plane.{Point}
use Rattle.polygon.specs.Ring.{IsRing}
use Rattle.intersection_set.specs.Store.{Rec}
use Rattle.machine.specs.Onward.{Names}
use Rattle.resume.specs.Image.{Image, take_up}

-- The ring names each point once; each age is below the record count, and no other record's; the records name exactly the pairs of ring edges that meet,
-- each once or twice.
pub record Fit (n : ℕ) (pt : ℕ → Point) (m : Image) : Type 0 where
  pub ring : IsRing n m.ring
  pub ages : (a : ℕ) → count_p (λ l. eqb a l.age) m.lines ≤ one (ltb a (length m.lines))
  pub names : Names n pt m.ring (take_up m).store.dense

-- A ring and a dense list that can be saved: as above, but that ages need only differ.
pub record Savable (n : ℕ) (pt : ℕ → Point) (r : List ℕ) (d : List Rec) : Type 0 where
  pub ring : IsRing n r
  pub ages : (a : ℕ) → count_p (λ x. eqb a x.age) d ≤ 1
  pub names : Names n pt r d
