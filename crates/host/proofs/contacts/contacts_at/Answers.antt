-- `contacts_at` meets its contract: there is room for as many positions as there are edges.
use Rattle.std.proofs.Common.{sym, ◌∙◌, arith}
use Rattle.std.proofs.Math.Seq.{length-take-le}
use Rattle.geometry.specs.Spots.{spots}
use Rattle.index_edge.specs.Number.{edge_of}
use Rattle.sweeps.proofs.Querying.{contacts_few}
use Rattle.host.proofs.contacts.contacts_at.Goals as goal

pub slice_bounds-copy_from_slice-end : goal.slice_bounds-copy_from_slice-end
slice_bounds-copy_from_slice-end c =
    let few = contacts_few c.args.points.n (spots c.args.points) c.args.ring.now (edge_of c.edge_at.result) in
    omega (arith, few, c.query-done.ensures.count, c.requires.4)

pub slice_bounds-copy_from_slice-end-2 : goal.slice_bounds-copy_from_slice-end-2
slice_bounds-copy_from_slice-end-2 c =
    let few = contacts_few c.args.points.n (spots c.args.points) c.args.ring.now (edge_of c.edge_at.result) in
    sym (length-take-le c.query-done.result.count c.args.found.now (omega (arith, few, c.query-done.ensures.count, c.requires.4)))

pub copy_from_slice-requires : goal.copy_from_slice-requires
copy_from_slice-requires c =
    let count = c.query-done.result.count in
    let few = contacts_few c.args.points.n (spots c.args.points) c.args.ring.now (edge_of c.edge_at.result) in
    length-take-le count c.args.found.now (omega (arith, few, c.query-done.ensures.count, c.requires.4))
    ∙ sym (length-take-le count c.query-done.new.found (omega (arith, few, c.query-done.ensures.count, c.query-done.ensures.size, c.args.points.lent.few)))
