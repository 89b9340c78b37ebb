-- A ring that is read elsewhere, and the index made from it.
use mathlib.Core.Path.{refl, ◌∙◌}
use lib.ListN.{length}
use Rattle.two_opt.specs.Lent.{loan_of}
use Rattle.two_opt.proofs.Answering.{part_length, starting}
use Rattle.two_opt.proofs.workspace.Workspace.start_from.Goals as goal

pub returns-clause-started : goal.returns-clause-started
returns-clause-started c =
    let (few, e, ring) = c.requires in
    let n = length c.args.ring.now in
    starting n (loan_of c.args.self.now) c.args.ring.now e refl c.copy_ring.ensures.ring
    (c.copy_ring.auto.index ∙ part_length n c.args.self.now.index.now refl e.in_index)
    c.copy_ring.ensures.index
