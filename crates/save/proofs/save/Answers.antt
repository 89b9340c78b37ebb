-- `save` meets its contract: each exit answers what the definition says.
use Rattle.std.proofs.Common.{rules, ℕ, List, [], ◌++◌, ◌<◌, sym, ◌∙◌, ap, length, take, arith}
use Rattle.std.proofs.lemmas.Result.{err_from_is_err_and}
use contract.BorrowLft.{◌⊑◌, ⊑_static, ⊑_meet}
use Rattle.intersection_set.proofs.Lengths.{cap_small}
use Rattle.job.specs.Buffers.{put}
use Rattle.image.specs.Bytes.{image_bytes}
use Rattle.save.specs.Saved.{records_of}
use Rattle.save.proofs.Reading.{enough, records_length, image_is}
use Rattle.save.proofs.Answering.{refused_early, refused_late, written, is_accepted, is_enough}
use Rattle.save.proofs.save.Goals as goal

pub invariant_of-check_ring : goal.invariant_of-check_ring
invariant_of-check_ring c =
    let a = c.args in
    record { long = λ few h. let e = enough a.n a.x.now a.y.now a.ring.now a.records.live a.records.dense.now a.records.ends.now a.records.ages.now a.out.now (sym (c.is_short-short.ensures few) ∙ h) in (e.in_x, e.in_y) }

pub check_ring-requires : goal.check_ring-requires
check_ring-requires c =
    let a = c.args in
    λ few h. (enough a.n a.x.now a.y.now a.ring.now a.records.live a.records.dense.now a.records.ends.now a.records.ages.now a.out.now (sym (c.is_short-short.ensures few) ∙ h)).in_ring

pub returns-in_err-points : goal.returns-in_err-points
returns-in_err-points c =
    let a = c.args in
    let p = err_from_is_err_and c.from_residual.result c.from_residual.ensures.1 in
    rw (p.1, p.2) (refused_early a.n a.x.now a.y.now a.ring.now a.records.live a.records.dense.now a.records.ends.now a.records.ages.now a.out.now c.is_short-short.result c.is_short-short.ensures c.in_err-points.field-0.0 c.in_err-points.ensures.number)

pub can_be_saved-requires-clause-lent : goal.can_be_saved-requires-clause-lent
can_be_saved-requires-clause-lent c =
    let a = c.args in
    let o = c.in_ok-points.ensures.passed in
    let ok = is_accepted a.n a.x.now a.y.now a.ring.now a.records.live a.records.dense.now a.records.ends.now a.records.ages.now a.out.now c.is_short-short.result c.is_short-short.ensures c.in_ok-points.ensures.number in
    rw (o.0, o.1, o.2) (ok.ring, ok.board, cap_small ok.few)

pub can_be_saved-requires-clause-read : goal.can_be_saved-requires-clause-read
can_be_saved-requires-clause-read c =
    let a = c.args in
    let e = is_enough a.n a.x.now a.y.now a.ring.now a.records.live a.records.dense.now a.records.ends.now a.records.ages.now a.out.now c.is_short-short.result c.is_short-short.ensures c.in_ok-points.ensures.number in
    rw c.in_ok-points.ensures.passed.0 (e.few, e.in_dense, e.in_ends, e.in_ages)

pub returns-then-not-can_be_saved : goal.returns-then-not-can_be_saved
returns-then-not-can_be_saved c =
    let a = c.args in
    let o = c.in_ok-points.ensures.passed in
    refused_late a.n a.x.now a.y.now a.ring.now a.records.live a.records.dense.now a.records.ends.now a.records.ages.now a.out.now c.is_short-short.result c.is_short-short.ensures c.in_ok-points.ensures.number (rw (o.0, o.1, o.2) at c.can_be_saved.ensures.decides) c.if-not-can_be_saved.true

-- the closure lives as long as the records and the table
outlived : {j k l m : List ℕ} → j ⊑ k → j ⊑ l → j ⊑ m
    → j ⊑ (k ++ (l ++ [] ++ (l ++ [] ++ (l ++ [] ++ []))) ++ (m ++ [] ++ []) ++ (k ++ (l ++ [] ++ (l ++ [] ++ (l ++ [] ++ []))) ++ (m ++ [] ++ [])))
outlived a b d =
    let s = ⊑_meet _ _ _ b (⊑_static _) in
    let t = ⊑_meet _ _ _ (⊑_meet _ _ _ d (⊑_static _)) (⊑_static _) in
    let x = ⊑_meet _ _ _ (⊑_meet _ _ _ a (⊑_meet _ _ _ s (⊑_meet _ _ _ s (⊑_meet _ _ _ s (⊑_static _))))) t in
    ⊑_meet _ _ _ x x

pub write_image-requires : goal.write_image-requires
write_image-requires c κs within =
    let a = c.args in
    let few = (is_accepted a.n a.x.now a.y.now a.ring.now a.records.live a.records.dense.now a.records.ends.now a.records.ages.now a.out.now c.is_short-short.result c.is_short-short.ensures c.in_ok-points.ensures.number).few in
    let e = is_enough a.n a.x.now a.y.now a.ring.now a.records.live a.records.dense.now a.records.ends.now a.records.ages.now a.out.now c.is_short-short.result c.is_short-short.ensures c.in_ok-points.ensures.number in
    let cap = cap_small few in
    let reads = c.can_be_saved.ensures.reads c.if-not-can_be_saved.false in
    let sorted = c.can_be_saved.ensures.sorted c.if-not-can_be_saved.false in
    let short : length (take a.records.live c.can_be_saved.new.table) < 4294967296
    = omega (arith, sorted.size, records_length a.records.live a.records.dense.now a.records.ends.now a.records.ages.now reads.few, e.few, cap) in (
      outlived within.0 within.1.0 within.1.1.0,
      ((e.in_out, omega (arith, few, e.few, cap)), ((e.in_x, e.in_y, e.in_ring), ((λ i h κs' p q r t u v l. (reads, h, sorted, short)), (λ i r h post. search rules)))),
    )

pub returns : goal.returns
returns c =
    let a = c.args in
    let o = c.in_ok-points.ensures.passed in
    let e = is_enough a.n a.x.now a.y.now a.ring.now a.records.live a.records.dense.now a.records.ends.now a.records.ages.now a.out.now c.is_short-short.result c.is_short-short.ensures c.in_ok-points.ensures.number in
    let d = records_of a.records.live a.records.dense.now a.records.ends.now a.records.ages.now in
    let long = records_length a.records.live a.records.dense.now a.records.ends.now a.records.ages.now (omega (arith, e.few, e.in_dense)) in
    written a.n a.x.now a.y.now a.ring.now a.records.live a.records.dense.now a.records.ends.now a.records.ages.now a.out.now c.is_short-short.result c.is_short-short.ensures c.in_ok-points.ensures.number (rw (o.0, o.1, o.2) at c.can_be_saved.ensures.decides) c.if-not-can_be_saved.false c.write_image.ensures.length
    (c.write_image.ensures.bytes ∙ ap (λ m. put a.out.now 0 (image_bytes a.n a.x.now a.y.now m)) (image_is a.n a.ring.now d (sym long)))
