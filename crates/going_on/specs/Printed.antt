-- What is printed of picks and an image: a refusal, or what the plain machine answers that goes on from the image.
use Rattle.std.specs.Prelude.{Bool, false, cond, List, map, ℕ, ◌+◌, ◌*◌, leb, length, drop}
use Rattle.algebra.specs.Ranges.{up_from}
use Rattle.index_edge.specs.Edge.{Edge}
use Rattle.intersection_set.specs.Lists.{tangle}
use Rattle.untangle.specs.Running.{state_after}
use Rattle.job.specs.Words.{word}
use Rattle.job.specs.Text.{refused_line}
use Rattle.resume.specs.Image.{take_up}
use Rattle.image.specs.Reading.{point_count, read_image}
use Rattle.take_up.specs.TakenUp.{board_in, taking_call}
use Rattle.tour.specs.Printed.{told}

-- how many picks stand before the image: the first word
abbrev pub pick_count : List ℕ → ℕ
pick_count input = word input 0

-- the input is long enough for them
abbrev pub has_picks : List ℕ → Bool
has_picks input = leb (4 + 4 * pick_count input) (length input)

-- they stand behind that word
abbrev pub pick_in : List ℕ → ℕ → ℕ
pick_in input i = word input (4 + 4 * i)

abbrev pub picks_in : List ℕ → List ℕ
picks_in input = map (pick_in input) (up_from 0 (pick_count input))

-- the image is the rest
abbrev pub image_in : List ℕ → List ℕ
image_in input = drop (4 + 4 * pick_count input) input

-- how many records name an edge after the picks
abbrev pub tangle_on : List ℕ → List ℕ → Edge → ℕ
tangle_on img cs e = tangle e (state_after (point_count img) (board_in img) (take_up (read_image img)) cs).store

-- The text of the run from the image by the picks. The buffers have room for 256 points, so that none is refused for their lengths.
unfoldable pub text_on : List ℕ → List ℕ → List ℕ
text_on img cs = told (board_in img) (tangle_on img cs) (taking_call img false cs)

-- the same of an input; one that is too short for its picks has no image
unfoldable pub printed_on : List ℕ → List ℕ
printed_on input = cond (has_picks input) (text_on (image_in input) (picks_in input)) (refused_line 20)
