-- What `take_up` answers and leaves: the machine that goes on from the image, or a refusal.
use Rattle.std.specs.Prelude.{◌≡◌, ◌≢◌, Bool, cond, List, ℕ, eqb, ℤ}
use Rattle.geometry.specs.Plane.{Point}
use Rattle.geometry.specs.Lent.{points}
use Rattle.machine.specs.Answer.{Answer, refused, too_many}
use Rattle.box_tree.specs.Tree.{ring_tree}
use Rattle.resolve.specs.Ended.{Ended}
use Rattle.two_opt.specs.Entry.{Loan, front, past, short_of}
use Rattle.job.specs.Buffers.{over}
use Rattle.resume.specs.Image.{take_up}
use Rattle.resume.specs.Check.{image_refusal, take_up_call}
use Rattle.image.specs.Reading.{image_fault, point_count, x_in, y_in, xs_in, ys_in, read_image}

module _ (img : List ℕ) where
  -- the image's points
  abbrev pub board_in : ℕ → Point
  board_in = points (xs_in img) (ys_in img)

  -- Check 20, then 1, 2, 19, 3 to 7 and 21: the number of the first that refuses, or 0.
  unfoldable pub taking_refusal : (short many : Bool) → ℕ
  taking_refusal short many = cond (eqb (image_fault img) 0) (image_refusal (point_count img) board_in short many (read_image img)) (image_fault img)

  -- A call that takes it up with the picks cs.
  unfoldable pub taking_call : (short : Bool) (cs : List ℕ) → Answer
  taking_call short cs = cond (eqb (image_fault img) 0) (take_up_call (point_count img) board_in short (read_image img) cs) (refused (image_fault img))

  -- The call with the picks cs was lent x, y and `was`, and leaves x', y' and `is`. A refusal but 8 leaves all as it was. Else the points are the image's, and
  -- what check 2 asks for holds the machine after the picks, with the tree built from nothing on the ring that is left; nothing is written past it.
  pub record TakenUp (cs : List ℕ) (x y : List ℤ) (was : Loan) (x' y' : List ℤ) (is : Loan) (a : Answer) : Type 0 where
    pub answers : a ≡ taking_call (short_of (point_count img) x y was) cs
    pub untouched : taking_refusal (short_of (point_count img) x y was) (too_many cs) ≢ 0 → (x' ≡ x) × (y' ≡ y) × (is ≡ was)
    pub filled : taking_refusal (short_of (point_count img) x y was) (too_many cs) ≡ 0 → (x' ≡ over x (x_in img) (point_count img)) × (y' ≡ over y (y_in img) (point_count img))
    pub ended : taking_refusal (short_of (point_count img) x y was) (too_many cs) ≡ 0
        → (let n = point_count img in Ended n board_in (take_up (read_image img)) cs (front n is).ring (front n is).index (front n is).records)
    pub tree : taking_refusal (short_of (point_count img) x y was) (too_many cs) ≡ 0
        → (let n = point_count img in (front n is).tree ≡ ring_tree n board_in (front n is).ring)
    pub beyond : past (point_count img) is ≡ past (point_count img) was
