-- The index made from the ring.
use mathlib.Core.Path.{refl, sym, ap, ◌∙◌}
use native.Mathlib.Omega.{arith}
use lib.ListN.{take}
use Rattle.polygon.specs.Ring.{index_of}
use Rattle.two_opt.specs.Lent.{loan_of}
use Rattle.two_opt.proofs.Answering.{part_length, starting}
use Rattle.two_opt.proofs.workspace.Workspace.start_from_ring.Goals as goal

pub rebuild_index-requires : goal.rebuild_index-requires
rebuild_index-requires c =
    let (few, e, ring) = c.requires in
    (rw ring.len ring, omega (arith, ring.len, few), part_length c.args.n c.args.self.now.index.now refl e.in_index ∙ sym ring.len)

pub returns-clause-started : goal.returns-clause-started
returns-clause-started c =
    let n = c.args.n in
    let (few, e, ring) = c.requires in
    starting n (loan_of c.args.self.now) (take n c.args.self.now.ring.now) e ring.len refl
    (c.rebuild_index.auto.index ∙ part_length n c.args.self.now.index.now refl e.in_index)
    (c.rebuild_index.ensures ∙ ap (λ k. index_of k (take n c.args.self.now.ring.now)) ring.len)
