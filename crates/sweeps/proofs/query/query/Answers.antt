-- `query` meets its contract: the near edges hold all that meet the edge, and of them the others are tested.
use Rattle.std.proofs.Common.{sym, arith}
use Rattle.sweeps.proofs.Querying.{asked, near_found, few_places, places_end, places_length, on_ring, query_list, query_count, query_tested}
use Rattle.sweeps.proofs.query.query.Goals as goal

pub query-count-requires : goal.query-count-requires
query-count-requires c =
    let h = c.requires in
    let few = c.args.points.lent.few in
    asked c.args.ring.now h.1 few (omega (arith, few)) h.3

pub slice_bounds-positions-end : goal.slice_bounds-positions-end
slice_bounds-positions-end c =
    let near = near_found c.requires.3 c.at.ensures c.at-2.ensures c.new-b.ensures c.query-count.ensures in
    places_end near (omega (arith, c.args.points.lent.few))

pub slice_bounds-test_edges-end : goal.slice_bounds-test_edges-end
slice_bounds-test_edges-end c =
    let near = near_found c.requires.3 c.at.ensures c.at-2.ensures c.new-b.ensures c.query-count.ensures in
    sym (places_length near (omega (arith, c.args.points.lent.few)))

pub test_edges-requires : goal.test_edges-requires
test_edges-requires c =
    let h = c.requires in
    let near = near_found h.3 c.at.ensures c.at-2.ensures c.new-b.ensures c.query-count.ensures in
    let long = places_length near (omega (arith, c.args.points.lent.few)) in
    (h.0, h.1, h.2, on_ring near, omega (arith, few_places near, long, h.4))

pub returns-clause-found : goal.returns-clause-found
returns-clause-found c =
    let h = c.requires in
    let near = near_found h.3 c.at.ensures c.at-2.ensures c.new-b.ensures c.query-count.ensures in
    query_list near h.0 h.1 h.2 c.test_edges.ensures

pub returns-clause-count : goal.returns-clause-count
returns-clause-count c =
    let h = c.requires in
    let near = near_found h.3 c.at.ensures c.at-2.ensures c.new-b.ensures c.query-count.ensures in
    query_count near h.0 h.1 h.2 c.test_edges.ensures

pub returns-clause-tested : goal.returns-clause-tested
returns-clause-tested c =
    let near = near_found c.requires.3 c.at.ensures c.at-2.ensures c.new-b.ensures c.query-count.ensures in
    query_tested near c.test_edges.ensures
