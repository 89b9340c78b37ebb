-- `run` meets its contract: one move more in each turn, until no record or no pick is left.
use mathlib.Core.Path.{subst⁻¹, refl, ◌≡◌, ◌∙◌, sym}
use mathlib.Core.List.{List}
use Prim.Native.Nat.{ℕ, ◌+◌, ◌<◌}
use native.Mathlib.Omega.{arith}
use borrow.Author.Tests.{eqb-true, eqb-false}
use lib.ListN.{length, get_or, take}
use Rattle.geometry.specs.Spots.{spots}
use Rattle.intersection_set.proofs.Buffers.{same_then}
use Rattle.machine.specs.Machine.{run_word, place}
use Rattle.machine.specs.Onward.{from}
use Rattle.std.proofs.lemmas.List.{take_more}
use Rattle.resolve.proofs.Picking.{running_more, still_few, picked, one_more, ended_early}
use Rattle.resolve.proofs.run.run.Goals as goal

pub returns-then-is_empty-clause-ran : goal.returns-then-is_empty-clause-ran
returns-then-is_empty-clause-ran c = λ s h.
    let b = c.loop-i.invariant.ran s h in
    ended_early c.args.picks.now c.loop-i.i b.0 (eqb-true _ 0 (sym c.is_empty.ensures ∙ c.if-is_empty.true)) b.1

pub untangle-requires : goal.untangle-requires
untangle-requires c =
    let v = c.loop-i.invariant in
    let q = c.requires.3 in
    let run = (v.ran q.0 q.1).0 in
    let some : 0 < c.loop-i.set.counts.live = let z = eqb-false _ 0 (sym c.is_empty.ensures ∙ c.if-is_empty.false) in omega arith in
    rw v.same.vertices (c.requires.0, v.tree, (q.0, _, get_or c.args.picks.now c.loop-i.i 0, run, picked run (still_few c.args.picks.now c.loop-i-test.true c.requires.1) some (c.random-isect.ensures _ _ _ run.holds refl refl refl)))

pub loop-i-preserved : goal.loop-i-preserved
loop-i-preserved c =
    let v = c.loop-i.invariant in
    let cs = c.args.picks.now in
    let i = c.loop-i.i in
    let l = c.loop-i-test.true in
    let d = c.untangle.ensures in
    let some : 0 < c.loop-i.set.counts.live = let z = eqb-false _ 0 (sym c.is_empty.ensures ∙ c.if-is_empty.false) in omega arith in
    record {
      same = same_then v.same d.same;
      loans = (d.loans.0 ∙ v.loans.0, d.loans.1 ∙ v.loans.1);
      tree = rw v.same.vertices at d.tree;
      ran =
          λ r h.
          let b = v.ran r h in (
            running_more cs i l ((rw v.same.vertices at d.running) r (take i cs) (get_or cs i 0) b.0 (picked b.0 (still_few cs l c.requires.1) some (c.random-isect.ensures _ _ _ b.0.holds refl refl refl))),
            subst⁻¹ (λ (xs : List ℕ). length (run_word c.args.set.now.vertices (spots c.args.points) place xs (from r)).log ≡ i + 1) (take_more cs i 0 l) (one_more b.0 (get_or cs i 0) some b.1),
          );
    }
