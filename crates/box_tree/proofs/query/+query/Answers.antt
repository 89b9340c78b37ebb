-- `query` meets its contract: what is left out has nothing to find, and what the halves find is what the whole finds.
use Rattle.std.proofs.Common.{arith}
use Rattle.box_tree.proofs.Querying.{asked_size, asked_first, asked_second, finds_none, finds_halves}
use Rattle.box_tree.proofs.query.+query.Goals as goal

pub read-requires : goal.read-requires
read-requires t c = omega (arith, asked_size c.requires)

pub returns-then-not-shares : goal.returns-then-not-shares
returns-then-not-shares t c = finds_none c.requires c.args.b (cc)

pub slice_bounds-query-end : goal.slice_bounds-query-end
slice_bounds-query-end t c = omega (arith, asked_size c.requires)

pub query-c-requires : goal.query-c-requires
query-c-requires t c = (omega arith, asked_first c.requires (omega arith))

pub query-requires : goal.query-requires
query-requires t c = (omega arith, asked_second c.requires (omega arith) c.args.b c.query-c.ensures)

pub returns : goal.returns
returns t c = finds_halves c.requires (omega arith) c.args.b c.query-c.ensures c.query.ensures
