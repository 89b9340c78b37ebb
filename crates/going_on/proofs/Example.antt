-- The image of the seven-point board after pick 0, from its bytes to all that is printed, by computation: with no picks, and with two.
use Rattle.std.specs.Prelude.{◌≡◌, refl, List, [], ◌∷◌, ◌++◌, ℕ}
use Rattle.integer_root.specs.Root.{root, root_to}
use Rattle.geometry.specs.Plane.{squared_distance}
use Rattle.geometry.specs.Contact.{overlap_of, kind}
use Rattle.machine.specs.Board.{kind_edges, meet_edges}
use Rattle.job.specs.Ascii.{ascii}
use Rattle.job.specs.Words.{word, signed, word_bytes, bytes_of}
use Rattle.job.specs.Decimal.{digits, decimal, integer}
use Rattle.job.specs.Feed.{feed_between, edge_feed}
use Rattle.job.specs.Text.{summary, point_line, point_lines, loop_lines, left_line, edge_name, edge_line, edge_lines, total_line, stopped_lines}
use Rattle.image.specs.Halves.{half, half_bytes, halves_of}
use Rattle.image.specs.Reading.{outside, decide_image, image_fault, age_in}
use Rattle.take_up.specs.TakenUp.{taking_call}
use Rattle.tour.specs.Printed.{told}
use Rattle.going_on.specs.Printed.{text_on, printed_on}

-- what `stop` writes of it (stopping/proofs/Example)
abbrev image : List ℕ
image =
    bytes_of (7 ∷ 28 ∷ 84 ∷ 4 ∷ 98 ∷ 12 ∷ 146 ∷ 12 ∷ 0 ∷ 1 ∷ 0 ∷ 3 ∷ 4294967291 ∷ 0 ∷ 0 ∷ 10 ∷ 0 ∷ 2 ∷ 0 ∷ 6 ∷ 5 ∷ [])
    ++ halves_of (0 ∷ 4 ∷ 1 ∷ 2 ∷ 3 ∷ 5 ∷ 6 ∷ 1 ∷ 4 ∷ 3 ∷ 5 ∷ 0 ∷ 0 ∷ 1 ∷ 2 ∷ 3 ∷ 5 ∷ 1 ∷ 0 ∷ 1 ∷ 4 ∷ 3 ∷ 5 ∷ 2 ∷ 0 ∷ 1 ∷ 4 ∷ 5 ∷ 6 ∷ 3 ∷ 0 ∷ [])

pub seven_points : printed_on (bytes_of (0 ∷ []) ++ image) ≡ ascii "refused 8 left 4\nedge 0 4 0\nedge 1 4 3\nedge 1 2 1\nedge 2 3 0\nedge 3 5 3\nedge 5 6 1\nedge 0 6 0\ntotal 8\n"
unfolding printed_on text_on taking_call image_fault decide_image outside age_in half half_bytes halves_of told word signed bytes_of word_bytes left_line edge_name edge_line edge_lines total_line stopped_lines decimal digits meet_edges kind_edges kind overlap_of
seven_points = refl

pub two_picks : printed_on (bytes_of (2 ∷ 3 ∷ 1 ∷ []) ++ image) ≡ ascii "ok 7 moves 2 cross 4 feed 35\n10 0\n12 0\n6 5\n0 0\n3 -5\n1 0\n2 0\n"
unfolding printed_on text_on taking_call image_fault decide_image outside age_in half half_bytes halves_of told word signed bytes_of word_bytes loop_lines summary point_line point_lines integer decimal digits edge_feed feed_between squared_distance root root_to meet_edges kind_edges kind overlap_of
two_picks = refl
