-- The image.
use Rattle.image.specs.Reading.{read_image}
use Rattle.take_up.proofs.go_on_from.Given as goal

abbrev pub ghost-refill : goal.ghost-refill
ghost-refill a = read_image a.age.0.now.bytes.now
