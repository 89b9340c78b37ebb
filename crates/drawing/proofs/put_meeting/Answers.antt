-- The line of the refusal, and behind it that of the two edges.
use Rattle.std.proofs.Common.{ap, subst, ◌∙◌, ◌≤◌, length, arith, length-append}
use Rattle.geometry.specs.Spots.{spots}
use Rattle.polygon.specs.Edges.{edge_at}
use Rattle.machine.specs.Board.{kind_edges}
use Rattle.job.specs.Text.{refused_line}
use Rattle.job.specs.Writing.{Wrote}
use Rattle.job.proofs.Writing.{wrote_then}
use Rattle.drawing.specs.Printed.{contact_line, told}
use Rattle.drawing.proofs.Found.{length_fifteen}
use Rattle.drawing.proofs.put_meeting.Goals as goal

pub put_contact-requires-clause-room : goal.put_contact-requires-clause-room
unfolding refused_line
put_contact-requires-clause-room c =
    let p : Wrote c.args.w.now c.put_line.new.w (refused_line 15) = c.put_line.ensures in
    omega (arith, c.requires.room, p.long, p.text.next, length_fifteen)

pub returns-clause-text : goal.returns-clause-text
unfolding told refused_line
returns-clause-text c =
    let a = c.args in
    let n = c.size-size.ensures in
    let e = c.edge_at.ensures ∙ ap (λ m. edge_at m a.ring.now a.first) n in
    let f = c.edge_at-2.ensures ∙ ap (λ m. edge_at m a.ring.now a.second) n in
    wrote_then c.put_line.ensures
    (subst (Wrote c.put_line.new.w c.put_contact.new.w) (λ t. contact_line (e t) (kind_edges (spots a.points) (e t) (f t)) (f t)) c.put_contact.ensures.text)

pub returns-clause-short : goal.returns-clause-short
unfolding told
returns-clause-short c =
    let a = c.args in
    let n = c.size-size.ensures in
    let e = c.edge_at.ensures ∙ ap (λ m. edge_at m a.ring.now a.first) n in
    let f = c.edge_at-2.ensures ∙ ap (λ m. edge_at m a.ring.now a.second) n in
    let line = contact_line (edge_at a.points.n a.ring.now a.first) (kind_edges (spots a.points) (edge_at a.points.n a.ring.now a.first) (edge_at a.points.n a.ring.now a.second)) (edge_at a.points.n a.ring.now a.second) in
    let h : length line ≤ 43 = subst (λ l. length l ≤ 43) (λ t. contact_line (e t) (kind_edges (spots a.points) (e t) (f t)) (f t)) c.put_contact.ensures.short in
    rw length-append (omega (arith, h, length_fifteen))
