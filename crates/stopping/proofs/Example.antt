-- The seven-point board after pick 0, from the job's bytes to those of the image, by computation.
use Rattle.std.specs.Prelude.{◌≡◌, refl, [], ◌∷◌, ◌++◌}
use Rattle.geometry.specs.Contact.{overlap_of, kind}
use Rattle.geometry.specs.Answers.{answered}
use Rattle.machine.specs.Board.{kind_edges, meet_edges}
use Rattle.job.specs.Words.{word, signed, word_bytes, bytes_of, bits_of}
use Rattle.job.specs.Steps.{steps}
use Rattle.job.specs.Job.{outside, shares_bytes, in_range, decide, refusal, accepted}
use Rattle.job.specs.Encoded.{pairs}
use Rattle.image.specs.Halves.{half_bytes, halves_of}
use Rattle.image.specs.Bytes.{image_header, line_bytes, lines_bytes, frame_bytes, image_bytes}
use Rattle.tour.proofs.Example.{seven}
use Rattle.stopping.specs.Stopped.{left_by, stopped_run, stopped}

pub seven_points : stopped seven ≡ answered (bytes_of (7 ∷ 28 ∷ 84 ∷ 4 ∷ 98 ∷ 12 ∷ 146
    ∷ 12 ∷ 0 ∷ 1 ∷ 0 ∷ 3 ∷ 4294967291 ∷ 0 ∷ 0 ∷ 10 ∷ 0 ∷ 2 ∷ 0 ∷ 6 ∷ 5 ∷ []) ++ halves_of (0 ∷ 4 ∷ 1 ∷ 2 ∷ 3 ∷ 5 ∷ 6
    ∷ 1 ∷ 4 ∷ 3 ∷ 5 ∷ 0 ∷ 0 ∷ 1 ∷ 2 ∷ 3 ∷ 5 ∷ 1 ∷ 0 ∷ 1 ∷ 4 ∷ 3 ∷ 5 ∷ 2 ∷ 0 ∷ 1 ∷ 4 ∷ 5 ∷ 6 ∷ 3 ∷ 0 ∷ []))
unfolding stopped stopped_run left_by accepted refusal decide outside shares_bytes in_range word signed steps bytes_of word_bytes bits_of pairs meet_edges kind_edges kind overlap_of half_bytes halves_of image_header line_bytes lines_bytes frame_bytes image_bytes
seven_points = refl
