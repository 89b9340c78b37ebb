-- Points and ring of the image.
use Rattle.image.specs.Reading.{x_in, y_in, ring_entry}
use Rattle.take_up.proofs.take_up.Given as goal

abbrev pub ghost-fill : goal.ghost-fill
ghost-fill a = x_in a.read.0.bytes.now

abbrev pub ghost-fill-2 : goal.ghost-fill-2
ghost-fill-2 a = y_in a.read.0.bytes.now

abbrev pub ghost-fill-3 : goal.ghost-fill-3
ghost-fill-3 a = ring_entry a.read.0.bytes.now

abbrev pub ghost-fill-4 : goal.ghost-fill-4
ghost-fill-4 a = x_in a.read.0.bytes.now

abbrev pub ghost-fill-5 : goal.ghost-fill-5
ghost-fill-5 a = y_in a.read.0.bytes.now
