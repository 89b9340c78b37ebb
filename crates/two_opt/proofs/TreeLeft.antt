-- The tree that an accepted call leaves, and that a run by it ends with the records of a run by plain scan: what the contract of `two_opt_moves` and
-- `resolve_self_intersections` says of both.
use Rattle.std.proofs.Common.{◌≡◌, List, ℕ, ℤ, length, ap, ◌∙◌, arith}
use Rattle.geometry.specs.Lent.{points}
use Rattle.intersection_set.specs.Holds.{Shows}
use Rattle.machine.specs.Machine.{after, place}
use Rattle.machine.specs.Answer.{Answer, too_many}
use Rattle.machine.proofs.Accepted.{accepted}
use Rattle.box_tree.specs.Tree.{ring_tree, tree_size}
use Rattle.box_tree.proofs.Growing.{tree_length}
use Rattle.two_opt.specs.Entry.{Loan, front, short_of, first_refusal, Entry}

pub record TreeLeft (n : ℕ) (x y : List ℤ) (r cs : List ℕ) (is : Loan) : Type 0 where
  -- the tree is the one built from nothing on the ring that is left
  pub whole : (front n is).tree ≡ ring_tree n (points x y) (front n is).ring
  -- it has four numbers for each of its 2n-1 boxes
  pub size : length (front n is).tree ≡ tree_size n
  -- the records, in the same dense order, are those of the machine, each search of which compares an edge with all edges of the ring
  pub same_records : Shows n (front n is).records (after n (points x y) place cs r).now.store

pub entry_tree : {n : ℕ} {x y : List ℤ} {r cs : List ℕ} {was is : Loan} {a : Answer} → Entry n x y r cs was is a → first_refusal n x y r cs was ≡ 0 → TreeLeft n x y r cs is
entry_tree {n} {x} {y} {r} {cs} {was} {is} e passed =
    let ok = (accepted n (points x y) (short_of n x y was) (too_many cs) r).0 passed in
    let some = ok.board.three in
    record {
      whole = e.tree passed;
      size = ap length (e.tree passed) ∙ tree_length n (points x y) (front n is).ring (omega (arith, some));
      same_records = (e.ended passed).shows;
    }
