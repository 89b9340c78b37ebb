-- The buffers that are filled from a fit image hold a state which a run can go on from.
use Rattle.std.specs.Prelude.{◌≡◌, refl, List, [], ℕ, length}
use Rattle.std.proofs.Common.{subst}
use Rattle.geometry.specs.Spots.{spots}
use Rattle.geometry.specs.declared.lent.Points.{Points}
use Rattle.polygon.specs.Ring.{Indexed}
use Rattle.polygon.specs.declared.polygon.Polygon.{Polygon}
use Rattle.polygon.proofs.Index.{index_is}
use Rattle.intersection_set.specs.Pool.{Pool}
use Rattle.intersection_set.specs.Holds.{Holds}
use Rattle.machine.specs.Board.{Board}
use Rattle.untangle.specs.Running.{Running}
use Rattle.resume.specs.Image.{taken_up, take_up}
use Rattle.resume.specs.Fit.{Fit}
use Rattle.resume.proofs.Images.{fit_ready}
use Rattle.resume.proofs.Resuming.{fit_few}
use Rattle.image.specs.Reading.{ring_in, lines_in, read_image}

pub resumed_running : (p : Points) (img : List ℕ) → Board p.n (spots p) → Fit p.n (spots p) (read_image img) → {ring index : List ℕ} {pool : Pool} → ring ≡ ring_in img → Indexed p.n ring index → Holds p.n pool (taken_up (lines_in img))
    → Running p.n (spots p) (take_up (read_image img)) [] ring index pool
resumed_running p img board fit e indexed holds = record {
  few = p.lent.few;
  board = board;
  ready = fit_ready p.n (spots p) board (read_image img) fit;
  young = fit_few p.n (spots p) board (read_image img) fit;
  same_ring = e;
  same_index = index_is indexed refl;
  holds = holds;
}

-- the ring that a polygon holds, with its index
pub polygon_indexed : (p : Polygon) {n : ℕ} → length p.ring.now ≡ n → Indexed n p.ring.now p.index.now
polygon_indexed p e = subst (λ n. Indexed n p.ring.now p.index.now) e p.indexed
