-- Two jobs, from their bytes to all that is printed, by computation: the example of the job file's page, and the seven-point board after pick 0.
use mathlib.Core.Path.{◌≡◌, refl}
use mathlib.Core.List.{List, [], ◌∷◌}
use Prim.Native.Nat.{ℕ}
use Rattle.integer_root.specs.Root.{root, root_to}
use Rattle.geometry.specs.Plane.{squared_distance}
use Rattle.job.specs.Ascii.{ascii}
use Rattle.job.specs.Words.{word, signed, word_bytes, bytes_of}
use Rattle.job.specs.Steps.{steps}
use Rattle.job.specs.Job.{outside, shares_bytes, in_range, decide, refusal, accepted}
use Rattle.job.specs.Decimal.{digits, decimal, integer}
use Rattle.job.specs.Feed.{feed_between, edge_feed}
use Rattle.job.specs.Text.{summary, point_line, point_lines, loop_lines, left_line, edge_name, edge_line, edge_lines, total_line, stopped_lines}
use Rattle.job.proofs.Example.{job}
use Rattle.geometry.specs.Contact.{overlap_of, kind}
use Rattle.machine.specs.Board.{kind_edges, meet_edges}
use Rattle.tour.specs.Printed.{told, printed}

pub example : printed job ≡ ascii "ok 4 moves 1 cross 1 feed 40\n0 0\n10 0\n10 10\n0 10\n"
unfolding printed told accepted refusal decide outside shares_bytes in_range word signed steps bytes_of word_bytes loop_lines summary point_line point_lines integer decimal digits edge_feed feed_between squared_distance root root_to meet_edges kind_edges kind overlap_of
example = refl

-- (120,0), (10,0), (30,-50), (0,0), (100,0), (20,0), (60,50) and the pick 0, with the offsets 20 and 76 and the total 80
abbrev pub seven : List ℕ
seven =
    bytes_of
    (7 ∷ 20 ∷ 1 ∷ 76 ∷ 80
    ∷ 120 ∷ 0 ∷ 10 ∷ 0 ∷ 30 ∷ 4294967246 ∷ 0 ∷ 0 ∷ 100 ∷ 0 ∷ 20 ∷ 0 ∷ 60 ∷ 50
    ∷ 0 ∷ [])

pub seven_points : printed seven ≡ ascii "refused 8 left 4\nedge 0 4 0\nedge 1 4 3\nedge 1 2 1\nedge 2 3 0\nedge 3 5 3\nedge 5 6 1\nedge 0 6 0\ntotal 8\n"
unfolding printed told accepted refusal decide outside shares_bytes in_range word signed steps bytes_of word_bytes left_line edge_name edge_line edge_lines total_line stopped_lines decimal digits meet_edges kind_edges kind overlap_of
seven_points = refl
