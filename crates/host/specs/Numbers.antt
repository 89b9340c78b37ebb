-- What hosts are told: each answer in numbers.
use Rattle.std.specs.Prelude.{Bool, true, false, cond, List, [], ◌∷◌, ℕ, eqb, ltb, ℤ, pos, length, take, Option as Found, Result, Ok, Err}
use Rattle.std.proofs.Math.Option.{Option, none as nothing, some}
use Rattle.refusal.specs.declared.Refusal.{Refusal}
use Rattle.refusal.specs.Number.{number_of}
use Rattle.geometry.specs.Plane.{Point}
use Rattle.geometry.specs.Segment.{End, exclusive, inclusive}
use Rattle.geometry.specs.Contact.{Kind, none, crossing, overlap}
use Rattle.geometry.specs.Lent.{points}
use Rattle.geometry.specs.Answers.{Answer as Told, refused as denied, answered}
use Rattle.polygon.specs.Ring.{first_fault}
use Rattle.polygon.specs.Place.{fault_of}
use Rattle.polygon.specs.declared.position.PositionId.{PositionId}
use Rattle.machine.specs.Answer.{Answer, refused, unfinished, delivered}
use Rattle.checks.specs.Checks.{any_below, first_four}
use Rattle.validate.specs.Drawn.{Check, passed, meeting, refused as rejected}
use Rattle.job.specs.declared.reader.Counts.{Counts}
use Rattle.job.specs.Feed.{feed_of}
use Rattle.host.specs.declared.meeting.TourEnd.{TourEnd}
use Rattle.host.specs.declared.meeting.TourKind.{TourKind}
use Rattle.host.specs.declared.loops.TourAnswer.{TourAnswer}
use Rattle.host.specs.declared.job_file.TourJob.{TourJob}
use Rattle.host.specs.declared.loop_feed.TourFeed.{TourFeed}
use Rattle.host.specs.declared.ring_fault.TourFault.{TourFault}
use Rattle.host.specs.declared.drawn.TourChecked.{TourChecked}
use Rattle.host.specs.declared.stopped.TourSaved.{TourSaved}

-- 0 for a delivered loop, else the number of the refusal, with the counts that belong to it
abbrev pub in_numbers : Answer → TourAnswer
in_numbers (delivered ring moves cross) = record { code = 0; moves = moves; cross = cross; left = 0 }
in_numbers (unfinished ring moves left) = record { code = 8; moves = moves; cross = 0; left = left }
in_numbers (refused number) = record { code = number; moves = 0; cross = 0; left = 0 }

-- 1 for yes, 0 for no, else the number of the refusal
abbrev pub yes_or_no : Told Bool → ℕ
yes_or_no (answered true) = 1
yes_or_no (answered false) = 0
yes_or_no (denied number) = number

-- an end of an overlap: where it is, and 1 where it is open
abbrev pub end_in_numbers : Point → End → TourEnd
end_in_numbers p exclusive = record { x = p.x; y = p.y; is_open = 1 }
end_in_numbers p inclusive = record { x = p.x; y = p.y; is_open = 0 }

abbrev pub no_end : TourEnd
no_end = record { x = pos 0; y = pos 0; is_open = 0 }

-- 0 with the number of the kind, and the ends of an overlap; else the number of the refusal
abbrev pub kind_in_numbers : Told Kind → TourKind
kind_in_numbers (answered none) = record { code = 0; kind = 0; start = no_end; stop = no_end }
kind_in_numbers (answered crossing) = record { code = 0; kind = 1; start = no_end; stop = no_end }
kind_in_numbers (answered (overlap v m w k)) = record { code = 0; kind = 2; start = end_in_numbers v m; stop = end_in_numbers w k }
kind_in_numbers (denied number) = record { code = number; kind = 0; start = no_end; stop = no_end }

-- 0 for a job that is read, with its counts, else the number of the refusal
abbrev pub job_in_numbers : Told Counts → TourJob
job_in_numbers (answered counts) = record { code = 0; points = counts.points; picks = counts.picks }
job_in_numbers (denied number) = record { code = number; points = 0; picks = 0 }

-- 0 for a drawn ring that passes, 15 with the positions of the edges that meet, else the number of the refusal
abbrev pub check_in_numbers : Check → TourChecked
check_in_numbers passed = record { code = 0; first = 0; second = 0 }
check_in_numbers (meeting i j) = record { code = 15; first = i; second = j }
check_in_numbers (rejected number) = record { code = number; first = 0; second = 0 }

-- 0 for a saved state, with the bytes that its image takes, else the number of the refusal
abbrev pub saved_in_numbers : Told ℕ → TourSaved
saved_in_numbers (answered size) = record { code = 0; length = size }
saved_in_numbers (denied number) = record { code = number; length = 0 }

-- What is told of a lent loop: the feed of the ring's first n entries, or the first of the checks 1 to 4 that fails; x, y and ring need n entries each.
unfoldable pub fed : ℕ → (x y : List ℤ) (ring : List ℕ) → Told ℕ
fed n x y ring =
    let number = first_four n (points x y) (any_below n (length x ∷ length y ∷ length ring ∷ [])) false (take n ring) in
    cond (eqb number 0) (answered (feed_of (points x y) (take n ring))) (denied number)

-- 0 with the feed, else the number of the refusal
abbrev pub feed_in_numbers : Told ℕ → TourFeed
feed_in_numbers (answered feed) = record { code = 0; feed = feed }
feed_in_numbers (denied number) = record { code = number; feed = 0 }

-- What is told of a lent ring: the first of its first n entries that is at fault, if one is; or the first of the checks 1 and 2 that fails.
unfoldable pub ring_fault : ℕ → List ℕ → Told (Option ℕ)
ring_fault n ring = cond (ltb 256 n) (denied 1) (cond (ltb (length ring) n) (denied 2) (answered (first_fault n (take n ring))))

-- a result of the code in these words
abbrev pub found : Result (Found PositionId) Refusal → Told (Option ℕ)
found (Ok fault) = answered (fault_of fault)
found (Err r) = denied (number_of r)

-- 0 where no entry is at fault, 4 with the position of the first that is, else the number of the refusal
abbrev pub fault_in_numbers : Told (Option ℕ) → TourFault
fault_in_numbers (answered nothing) = record { code = 0; position = 0 }
fault_in_numbers (answered (some position)) = record { code = 4; position = position }
fault_in_numbers (denied number) = record { code = number; position = 0 }
