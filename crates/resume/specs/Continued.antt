-- A run taken up beside the unstopped one.
use Rattle.std.specs.Prelude.{◌≡◌, List, ◌++◌, ℕ, ◌+◌, ◌≤◌, length}
use Rattle.geometry.specs.Plane.{Point}
use Rattle.machine.specs.Machine.{Laid, Traced}
use Rattle.machine.specs.Answer.{Answer, refused, unfinished, delivered, answer_from}
use Rattle.resume.specs.AgesAside.{SameButAges}

-- an answer with m moves more, and the starting count k
abbrev pub later : ℕ → ℕ → Answer → Answer
later m k (refused i) = refused i
later m k (unfinished r j l) = unfinished r (m + j) l
later m k (delivered r j l) = delivered r (m + j) k

-- t, which had made the moves of the log g when the other was saved, and u, which counts from then on
pub record GoesOn (n : ℕ) (pt : ℕ → Point) (g : List Laid) (t u : Traced) : Type 0 where
  -- the same ring, the same records but for ages and slots
  pub state : SameButAges t.now u.now
  -- the same moves, laying the same edges
  pub log : t.log ≡ u.log ++ g
  pub moves : length t.log ≡ length g + length u.log
  -- no greater next age: where the ages of t fit a width, those of u do
  pub next_age : u.now.store.pushes ≤ t.now.store.pushes
  -- the same answer, but for the moves made before and the starting count
  pub answers : (k k' : ℕ) → answer_from n pt k t ≡ later (length g) k (answer_from n pt k' u)
