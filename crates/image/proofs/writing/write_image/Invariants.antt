-- The records are the image's.
use Rattle.image.proofs.writing.write_image.Given as goal

abbrev pub ghost-put_lines : goal.ghost-put_lines
ghost-put_lines g a = g.entry
