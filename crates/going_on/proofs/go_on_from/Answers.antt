-- `go_on_from` meets its contract: what is left can be told, and is told as the definition says.
use Rattle.std.proofs.Common.{refl, ap, subst, ◌∙◌, get_or, arith}
use Rattle.job.specs.Buffers.{Put}
use Rattle.two_opt.specs.Lent.{loan_of}
use Rattle.going_on.proofs.Telling.{drawn, tallied, told_is}
use Rattle.going_on.proofs.go_on_from.Goals as goal

pub tell-requires-clause-drawn : goal.tell-requires-clause-drawn
tell-requires-clause-drawn c =
    let r = c.take_up-done in
    drawn c.args.image.now c.args.picks.now _ _ _ _ _ (loan_of r.new.work) r.result r.ensures.taken refl refl refl refl (record { ring = refl; records = refl; tree = omega arith })
    (ap (λ l. get_or l 0 0) r.ensures.same.sizes ∙ refl) (ap (λ l. get_or l 9 0) r.ensures.same.sizes ∙ refl) c.points_told.result c.points_told.ensures.all

pub tell-requires-clause-tallied : goal.tell-requires-clause-tallied
tell-requires-clause-tallied c =
    let r = c.take_up-done in
    tallied c.args.image.now c.args.picks.now _ _ _ _ _ (loan_of r.new.work) r.result r.ensures.taken refl refl refl refl (record { ring = refl; records = refl; tree = omega arith })
    (ap (λ l. get_or l 0 0) r.ensures.same.sizes ∙ refl) (ap (λ l. get_or l 9 0) r.ensures.same.sizes ∙ refl) c.points_told.result c.points_told.ensures.all

pub returns-clause-put : goal.returns-clause-put
returns-clause-put c =
    let r = c.take_up-done in
    let e = told_is c.args.image.now c.args.picks.now _ _ _ _ _ (loan_of r.new.work) r.result r.ensures.taken refl refl refl refl (record { ring = refl; records = refl; tree = omega arith })
    (ap (λ l. get_or l 0 0) r.ensures.same.sizes ∙ refl) (ap (λ l. get_or l 9 0) r.ensures.same.sizes ∙ refl) c.points_told.result c.points_told.ensures.all in
    subst (λ t. Put c.args.out.now 0 t c.tell.result c.tell.new.out) e c.tell.ensures.put
