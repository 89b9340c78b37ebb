-- `put_record` meets its contract: two words are stored, packed of the numbers that the lists then have.
use native.Mathlib.Omega.{arith}
use mathlib.Core.List.{map}
use Rattle.intersection_set.specs.Lists.{none}
use Rattle.intersection_set.specs.Pool.{prevs_in}
use Rattle.intersection_set.specs.Stored.{stored}
use Rattle.intersection_set.proofs.Words.{edges_stored, nexts_stored, prevs_stored, cleared}
use Rattle.intersection_set.proofs.intersection_set.put_record.Goals as goal

pub returns : goal.returns
returns c = let a = c.args in
    let e = a.isect in
    let l = edges_stored a.ends.now a.s.0 e.min.min.0 e.min.max.0 e.max.min.0 e.max.max.0 (omega arith) (omega arith) (omega arith) in
    let n = nexts_stored a.links.now a.s.0 (stored a.next0) none (stored a.next1) none (omega arith) (omega arith) (omega arith) in
    let p = prevs_stored a.links.now a.s.0 (stored a.next0) none (stored a.next1) none (omega arith) (omega arith) (omega arith) in
    (cc, cc, cc (cleared a.s.0 (map prevs_in a.links.now)))
