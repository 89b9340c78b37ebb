-- The records that are lent, with their ages renumbered.
use Rattle.std.specs.Prelude.{get_or}
use Rattle.intersection_set.specs.Store.{no_rec}
use Rattle.resume.specs.Image.{line_of}
use Rattle.save.specs.Saved.{records_of}
use Rattle.save.proofs.save.Given as goal

abbrev pub ghost-write_image : goal.ghost-write_image
ghost-write_image a i =
    let d = records_of a.line.0.now.live a.line.0.now.dense.now a.line.0.now.ends.now a.line.0.now.ages.now in
    line_of d (get_or d i no_rec)
