-- `put_found` meets its contract: what is found is passed on as it is told.
use Rattle.refusal.specs.declared.Refusal.TheVariants.{EdgesMeet}
use Rattle.std.proofs.Common.{rules, ℕ, ◌≡◌, refl, sym, ap, ◌∙◌, length, Err, arith}
use Rattle.geometry.specs.Lent.{points}
use Rattle.job.specs.Feed.{feed_of}
use Rattle.job.specs.Text.{refused_line}
use Rattle.job.proofs.Lines.{length_refused}
use Rattle.validate.specs.Drawn.{check_of}
use Rattle.drawing.specs.Printed.{told}
use Rattle.drawing.proofs.Found.{found_drawn, found_lent, found_ring, found_board, found_within, found_other, length_passed}
use Rattle.drawing.proofs.put_found.Goals as goal

pub invariant_of-feed : goal.invariant_of-feed
invariant_of-feed c = record { drawn = found_drawn c.args.x.now c.args.y.now c.args.ring.now c.in-Ok.ensures refl }

pub invariant_of-put_meeting : goal.invariant_of-put_meeting
invariant_of-put_meeting c =
    let found = sym (ap (λ e. check_of (Err e)) c.in-Err-EdgesMeet.field-0-is) ∙ c.in-Err-EdgesMeet.ensures in
    record { lent = found_lent c.args.x.now c.args.y.now c.args.ring.now found refl }

pub put_meeting-requires-clause-ring : goal.put_meeting-requires-clause-ring
put_meeting-requires-clause-ring c =
    let x = c.args.x.now in
    let y = c.args.y.now in
    let r = c.args.ring.now in
    let found = sym (ap (λ e. check_of (Err e)) c.in-Err-EdgesMeet.field-0-is) ∙ c.in-Err-EdgesMeet.ensures in
    let b = found_board x y r found refl in
    (found_ring x y r found refl, b.distinct, b.three, (found_within x y r found).0, (found_within x y r found).1)

pub returns-in-Ok-clause-text : goal.returns-in-Ok-clause-text
unfolding told
returns-in-Ok-clause-text c =
    let r = c.args.ring.now in
    rw (← c.in-Ok.ensures, ← c.feed.ensures) c.put_passed.ensures

pub returns-in-Ok-clause-short : goal.returns-in-Ok-clause-short
unfolding told
returns-in-Ok-clause-short c =
    let r = c.args.ring.now in
    let f = feed_of (points c.args.x.now c.args.y.now) r in
    rw (← c.in-Ok.ensures) (omega (arith, length_passed (length r) f))

pub returns-in-Err : goal.returns-in-Err
unfolding told refused_line
returns-in-Err c =
    let r = c.in-Err.refusal in
    let not_meeting : (first second : ℕ) → r ≡ EdgesMeet first second → ⊥ = search rules in
    let found = sym (found_other r not_meeting) ∙ c.in-Err.ensures in
    rw (← found, ← c.number.ensures) record { text = c.put_line.ensures; short = omega (arith, length_refused c.number.result) }
