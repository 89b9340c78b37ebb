use Rattle.std.proofs.Common.{◌≡◌, refl, ap, ◌∙◌, ◌+◌, append_assoc, add-one, rules, arith}
use Rattle.job.proofs.Written.{table_next}
use Rattle.makejob.specs.Drawn.{next_state, state, rotated, drawn}
use Rattle.makejob.proofs.generator.draw.Goals as goal

pub loop-init : goal.loop-init
unfolding state
loop-init c = record { at = refl; items = search rules; len = omega arith }

pub loop-preserved : goal.loop-preserved
unfolding state
loop-preserved c =
    let l = c.loop in
    let at : c.next_state-s.result ≡ state c.args.seed (l.counter + 1) = rw add-one (c.next_state-s.ensures ∙ ap next_state l.invariant.at) in
    let pick : c.rotate.result ≡ drawn c.args.seed l.counter = c.rotate.ensures ∙ ap rotated at in
    record {
      at = at;
      items = rw (add-one, table_next (drawn c.args.seed) l.counter, c.push.ensures.items, pick, l.invariant.items) (append_assoc c.args.picks.now.items _ _);
      len = omega (arith, c.push.ensures.len, l.invariant.len);
    }
