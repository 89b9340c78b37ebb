-- A tree of the ring before a move is right but on the stretch that the move changes.
use Rattle.std.specs.Prelude.{◌≡◌, List, ℕ, ◌<◌, ℤ}
use Rattle.std.proofs.Common.{sym, ◌∙◌, subst}
use Rattle.geometry.specs.Plane.{Point}
use Rattle.polygon.specs.Ring.{IsRing}
use Rattle.polygon.specs.Change.{Plan, turned, Fits}
use Rattle.box_tree.specs.Tree.{box_at, ring_tree}
use Rattle.box_tree.specs.Within.{SameBut, HeldBut}
use Rattle.box_tree.proofs.AfterMoves.{first_changed, last_changed, first_changed_lt, last_changed_lt, turned_same}

pub held_turned : {n : ℕ} (pt : ℕ → Point) (m : Plan) {l : List ℕ} {t : List ℤ} → 0 < n → Fits n m → ((r : List ℕ) × (l ≡ turned n m r) × (t ≡ ring_tree n pt r)) → HeldBut n (first_changed m) (last_changed m) (box_at n pt l) 0 n t
unfolding ring_tree
held_turned {n} pt m some fits h = record {
  first = first_changed_lt n some m fits;
  last = last_changed_lt n some m fits;
  held = (box_at n pt h.0, h.2, subst (λ l. SameBut n (first_changed m) (last_changed m) (box_at n pt h.0) (box_at n pt l)) (sym h.1) (turned_same n pt m h.0 fits));
}
