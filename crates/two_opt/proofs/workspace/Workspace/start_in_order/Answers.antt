-- The ring 0, 1, 2, .. is its own index.
use mathlib.Core.Path.{◌≡◌, refl, ap, ◌∙◌}
use mathlib.Core.List.{List}
use native.Mathlib.Omega.{arith}
use Prim.Native.Nat.{ℕ}
use lib.ListN.{length, take}
use Rattle.algebra.specs.Ranges.{up_from}
use Rattle.polygon.proofs.Index.{first_indexed, first_ring, index_is}
use Rattle.two_opt.specs.Lent.{loan_of}
use Rattle.two_opt.proofs.Answering.{part_length, starting}
use Rattle.two_opt.proofs.workspace.Workspace.start_in_order.Goals as goal

pub identity-requires : goal.identity-requires
identity-requires c =
    let n = c.args.n in
    let (few, e) = c.requires in
    let ring = part_length n c.args.self.now.ring.now refl e.in_ring in
    let index = part_length n c.args.self.now.index.now refl e.in_index in
    (omega (arith, few, ring), omega (arith, ring, index))

pub returns-clause-started : goal.returns-clause-started
returns-clause-started c =
    let n = c.args.n in
    let (few, e) = c.requires in
    let long = part_length n c.args.self.now.ring.now refl e.in_ring in
    let in_order : (l : List ℕ) → l ≡ up_from 0 (length (take n c.args.self.now.ring.now)) → l ≡ up_from 0 n = λ l e. e ∙ ap (up_from 0) long in
    let ring = in_order _ c.identity.ensures.ring in
    let index = in_order _ c.identity.ensures.index in
    starting n (loan_of c.args.self.now) (up_from 0 n) e (first_ring n).len ring (ap length index ∙ (first_ring n).len) (index ∙ index_is (first_indexed n) refl)
