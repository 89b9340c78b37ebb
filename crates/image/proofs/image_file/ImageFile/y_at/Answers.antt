use Rattle.std.proofs.Common.{ap, ◌∙◌, ◌+◌, ◌*◌}
use Rattle.job.specs.Words.{word}
use Rattle.image.specs.declared.header.Header.{Header}
use Rattle.image.proofs.Signed.{read_signed}
use Rattle.image.proofs.image_file.ImageFile.y_at.Goals as goal

pub returns : goal.returns
returns c =
    read_signed c.cast_signed.ensures c.word_at.type_inv
    (c.word_at.ensures ∙ ap (λ (h : Header). word c.args.self.bytes.now (h.point_start + 4 + 8 * c.args.i)) c.args.self.within.words)
