-- Dense order and reverse are 0, 1, 2, .., the rest is as it was.
use Rattle.intersection_set.specs.Set.{pool_in}
use Rattle.intersection_set.proofs.Filling.{holds_by_slot}
use Rattle.intersection_set.proofs.intersection_set.IndexIntersectionSet.order_by_slot.Goals as goal

pub returns-clause-holds : goal.returns-clause-holds
returns-clause-holds c = λ n s d h same slots. holds_by_slot n (pool_in c.args.self.now) s d same h slots c.number.ensures c.number-2.ensures
