-- The records of the image.
use Rattle.resume.specs.Image.{slotted}
use Rattle.image.specs.Reading.{lines_in}
use Rattle.take_up.proofs.is_fit.Given as goal

abbrev pub ghost-name_exactly : goal.ghost-name_exactly
ghost-name_exactly a = slotted 0 (lines_in a.read.0.now.bytes.now)

abbrev pub ghost-sort_ages : goal.ghost-sort_ages
ghost-sort_ages a = slotted 0 (lines_in a.age.0.now.bytes.now)
