-- `take_up` meets its contract: each exit answers what the definition says.
use Rattle.std.proofs.Common.{rules, ◌≡◌, refl, ◌≤◌, ◌<◌, sym, ◌∙◌, ap, subst, take, length, arith}
use mathlib.Core.Path.{subst⁻¹}
use borrow.Author.Tests.{ltb-false}
use Rattle.refusal.specs.declared.Refusal.TheVariants.{WrongRecords}
use Rattle.polygon.specs.Ring.{IsRing, index_of}
use Rattle.machine.specs.Answer.{refused}
use Rattle.machine.specs.Board.{Board}
use Rattle.two_opt.specs.Entry.{answer_of, refusal_of}
use Rattle.two_opt.specs.Lent.{loan_of, Enough, Starting, RanFrom}
use Rattle.two_opt.proofs.Answering.{enough}
use Rattle.job.specs.Buffers.{over}
use Rattle.resume.specs.Image.{take_up as state_of}
use Rattle.resume.specs.Check.{fits}
use Rattle.resume.specs.Fit.{Fit}
use Rattle.image.specs.Reading.{image_fault, point_count, x_in, y_in, ring_in, read_image}
use Rattle.take_up.specs.TakenUp.{TakenUp}
use Rattle.take_up.proofs.Answering.{number_is, fault_taken, check_taken, unfit_taken, ran_taken, is_fit, accepted_points}
use Rattle.take_up.proofs.take_up.Goals as goal

pub returns-in_err-file-clause-taken : goal.returns-in_err-file-clause-taken
returns-in_err-file-clause-taken c =
    let a = c.args in
    let ring = take (point_count a.image.now) a.work.now.ring.now in
    let told : answer_of c.from_residual.result ring ≡ refusal_of c.in_err-file.field-0.0 ring = search rules in
    rw told (fault_taken a.image.now a.picks.now a.x.now a.y.now (loan_of a.work.now) c.in_err-file.field-0.0 c.in_err-file.ensures.number)

pub returns-in_err-points-clause-taken : goal.returns-in_err-points-clause-taken
returns-in_err-points-clause-taken c =
    let a = c.args in
    let file = c.in_ok-file.file in
    let img = file.bytes.now in
    let same : img ≡ a.image.now = c.in_ok-file.ensures.same in
    let en : file.header.points ≡ point_count img = ap (λ h. h.points) file.within.words in
    let ef : file.header.points ≤ 256 → c.min-few.result ≡ file.header.points = λ h. search rules in
    let number = number_is img a.picks.now a.x.now a.y.now (loan_of a.work.now) en ef c.fill.ensures c.fill-2.ensures c.fill-3.ensures c.given-short.ensures.short c.given-short.ensures.many in
    let ring = take (point_count a.image.now) a.work.now.ring.now in
    let told : answer_of c.from_residual-in_err-points.result ring ≡ refusal_of c.in_err-points.field-0.0 ring = search rules in
    rw told
    (subst (λ i. TakenUp i a.picks.now a.x.now a.y.now (loan_of a.work.now) a.x.now a.y.now (loan_of a.work.now) (refusal_of c.in_err-points.field-0.0 (take (point_count i) a.work.now.ring.now))) same
    (check_taken img a.picks.now a.x.now a.y.now (loan_of a.work.now) (c.in_ok-file.ensures.number ∙ ap image_fault (sym same)) c.in_err-points.field-0.0 (c.in_err-points.ensures.number ∙ number)))

pub is_fit-requires : goal.is_fit-requires
is_fit-requires c =
    let a = c.args in
    let p = c.in_ok-points.points in
    let img = c.in_ok-file.file.bytes.now in
    let g = accepted_points c.in_ok-file.file a.picks.now a.x.now a.y.now (loan_of a.work.now) (λ h. search rules) c.fill.ensures c.fill-2.ensures c.fill-3.ensures c.given-short.ensures.short c.given-short.ensures.many
    (c.in_ok-file.ensures.number ∙ ap image_fault (sym c.in_ok-file.ensures.same)) c.in_ok-points.ensures.number p c.in_ok-points.ensures.passed in (
      g.counted,
      subst⁻¹ (λ (X : Type 0). X) (λ t. IsRing (g.size t) (g.ring t)) g.accepted.ring,
      subst⁻¹ (λ (X : Type 0). X) (λ t. Board (g.size t) (g.board t)) g.accepted.board,
      g.ring,
    )

pub returns-then-not-is_fit-clause-taken : goal.returns-then-not-is_fit-clause-taken
returns-then-not-is_fit-clause-taken c =
    let a = c.args in
    let p = c.in_ok-points.points in
    let img = c.in_ok-file.file.bytes.now in
    let g = accepted_points c.in_ok-file.file a.picks.now a.x.now a.y.now (loan_of a.work.now) (λ h. search rules) c.fill.ensures c.fill-2.ensures c.fill-3.ensures c.given-short.ensures.short c.given-short.ensures.many
    (c.in_ok-file.ensures.number ∙ ap image_fault (sym c.in_ok-file.ensures.same)) c.in_ok-points.ensures.number p c.in_ok-points.ensures.passed in
    subst (λ i. TakenUp i a.picks.now a.x.now a.y.now (loan_of a.work.now) a.x.now a.y.now (loan_of a.work.now) (refused 21)) c.in_ok-file.ensures.same
    (unfit_taken img a.picks.now a.x.now a.y.now (loan_of a.work.now) g.passed g.ok WrongRecords refl (c.is_fit.ensures ∙ (λ t. fits (g.size t) (g.board t) (read_image img))) c.if-not-is_fit.true)

pub start_from-requires : goal.start_from-requires
start_from-requires c =
    let a = c.args in
    let p = c.in_ok-points.points in
    let img = c.in_ok-file.file.bytes.now in
    let g = accepted_points c.in_ok-file.file a.picks.now a.x.now a.y.now (loan_of a.work.now) (λ h. search rules) c.fill.ensures c.fill-2.ensures c.fill-3.ensures c.given-short.ensures.short c.given-short.ensures.many
    (c.in_ok-file.ensures.number ∙ ap image_fault (sym c.in_ok-file.ensures.same)) c.in_ok-points.ensures.number p c.in_ok-points.ensures.passed in
    subst⁻¹ (λ (X : Type 0). X) (λ t. ((g.long t) < 65536) × Enough (g.long t) (loan_of a.work.now) × IsRing (g.long t) (g.ring t)) (omega (arith, g.accepted.few), enough (point_count img) a.x.now a.y.now (loan_of a.work.now) g.accepted.long, g.accepted.ring)

pub go_on_with-requires-clause-lent : goal.go_on_with-requires-clause-lent
go_on_with-requires-clause-lent c =
    let a = c.args in
    let p = c.in_ok-points.points in
    let img = c.in_ok-file.file.bytes.now in
    let g = accepted_points c.in_ok-file.file a.picks.now a.x.now a.y.now (loan_of a.work.now) (λ h. search rules) c.fill.ensures c.fill-2.ensures c.fill-3.ensures c.given-short.ensures.short c.given-short.ensures.many
    (c.in_ok-file.ensures.number ∙ ap image_fault (sym c.in_ok-file.ensures.same)) c.in_ok-points.ensures.number p c.in_ok-points.ensures.passed in
    let mid = loan_of c.start_from.new.self in
    let started = subst (λ (X : Type 0). X) (λ t. Starting (g.long t) (g.ring t) (loan_of a.work.now) mid) c.start_from.ensures.started in
    subst⁻¹ (λ n. Enough n mid × (take n mid.index ≡ index_of n (take n mid.ring)) × (take n mid.ring ≡ ring_in img)) g.size (started.enough, started.index ∙ ap (index_of (point_count img)) (sym started.ring), started.ring)

pub go_on_with-requires-clause-image : goal.go_on_with-requires-clause-image
go_on_with-requires-clause-image c =
    let a = c.args in
    let p = c.in_ok-points.points in
    let img = c.in_ok-file.file.bytes.now in
    let g = accepted_points c.in_ok-file.file a.picks.now a.x.now a.y.now (loan_of a.work.now) (λ h. search rules) c.fill.ensures c.fill-2.ensures c.fill-3.ensures c.given-short.ensures.short c.given-short.ensures.many
    (c.in_ok-file.ensures.number ∙ ap image_fault (sym c.in_ok-file.ensures.same)) c.in_ok-points.ensures.number p c.in_ok-points.ensures.passed in
    let fit = is_fit img a.picks.now a.x.now a.y.now (loan_of a.work.now) g.passed g.ok (c.is_fit.ensures ∙ (λ t. fits (g.size t) (g.board t) (read_image img))) c.if-not-is_fit.false in (
      subst⁻¹ (λ (X : Type 0). X) (λ t. Board (g.size t) (g.board t)) g.accepted.board,
      subst⁻¹ (λ (X : Type 0). X) (λ t. Fit (g.size t) (g.board t) (read_image img)) fit,
      ltb-false 1000000 (length a.picks.now) g.accepted.few_picks,
    )

pub returns-clause-taken : goal.returns-clause-taken
returns-clause-taken c =
    let a = c.args in
    let p = c.in_ok-points.points in
    let img = c.in_ok-file.file.bytes.now in
    let g = accepted_points c.in_ok-file.file a.picks.now a.x.now a.y.now (loan_of a.work.now) (λ h. search rules) c.fill.ensures c.fill-2.ensures c.fill-3.ensures c.given-short.ensures.short c.given-short.ensures.many
    (c.in_ok-file.ensures.number ∙ ap image_fault (sym c.in_ok-file.ensures.same)) c.in_ok-points.ensures.number p c.in_ok-points.ensures.passed in
    let mid = loan_of c.start_from.new.self in
    let is = loan_of c.go_on_with.new.work in
    let started = subst (λ (X : Type 0). X) (λ t. Starting (g.long t) (g.ring t) (loan_of a.work.now) mid) c.start_from.ensures.started in
    let fit = is_fit img a.picks.now a.x.now a.y.now (loan_of a.work.now) g.passed g.ok (c.is_fit.ensures ∙ (λ t. fits (g.size t) (g.board t) (read_image img))) c.if-not-is_fit.false in
    let ran = subst (λ (X : Type 0). X) (λ t. RanFrom (g.size t) (g.board t) (state_of (read_image img)) a.picks.now mid is c.go_on_with.result) c.go_on_with.ensures.ran in
    subst (λ i. TakenUp i a.picks.now a.x.now a.y.now (loan_of a.work.now) c.fill-4.new.out c.fill-5.new.out is (answer_of c.answer_of.result (take (point_count i) is.ring))) c.in_ok-file.ensures.same
    (ran_taken img a.picks.now a.x.now a.y.now (loan_of a.work.now) g.passed g.ok fit c.answer_of.result
    (c.fill-4.ensures ∙ ap (over a.x.now (x_in img)) g.counts)
    (c.fill-5.ensures ∙ ap (over a.y.now (y_in img)) g.counts)
    started ran c.answer_of.ensures)
