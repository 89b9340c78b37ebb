-- What `tourjob` prints.
use Rattle.std.specs.Prelude.{List, [], ◌++◌, ℕ, zero, suc, length}
use Rattle.geometry.specs.Plane.{Point}
use Rattle.index_edge.specs.Edge.{Edge}
use Rattle.polygon.specs.Ring.{at}
use Rattle.polygon.specs.Edges.{edge_at, edge_sum}
use Rattle.job.specs.Ascii.{ascii}
use Rattle.job.specs.Decimal.{decimal, integer}
use Rattle.job.specs.Feed.{feed_of}
use Rattle.job.specs.Loops.{spots}
use Rattle.job.specs.Tallies.{tally}
use Rattle.job.specs.declared.report.Report.{Report}
use Rattle.job.specs.declared.report.Report.TheVariants.{Delivered, Stopped, Refused, Numbered}
use Rattle.refusal.specs.Number.{number_of}

-- ---- an edge
-- `edge A B`: its two point numbers, the smaller first
unfoldable pub edge_name : Edge → List ℕ
edge_name e = ascii "edge " ++ (decimal e.lo ++ (ascii " " ++ decimal e.hi))

-- ---- a loop
-- the line `ok N moves M cross C feed F`
unfoldable pub summary : (n m c f : ℕ) → List ℕ
summary n m c f =
    ascii "ok " ++ (decimal n ++ (ascii " moves " ++ (decimal m ++ (ascii " cross " ++ (decimal c ++ (ascii " feed " ++ (decimal f ++ ascii "\n")))))))

-- the line `x y` of a point
unfoldable pub point_line : Point → List ℕ
point_line p = integer p.x ++ (ascii " " ++ (integer p.y ++ ascii "\n"))

-- the lines of the first k ring positions
unfoldable pub point_lines : (ℕ → Point) → List ℕ → ℕ → List ℕ
point_lines pt ring zero = []
point_lines pt ring (suc k) = point_lines pt ring k ++ point_line (pt (at ring k))

-- the lines of a delivered loop
unfoldable pub loop_lines : (ℕ → Point) → List ℕ → (moves cross : ℕ) → List ℕ
loop_lines pt ring moves cross = summary (length ring) moves cross (feed_of pt ring) ++ point_lines pt ring (length ring)

-- ---- a run that used up its picks
-- the line `refused 8 left L`
unfoldable pub left_line : ℕ → List ℕ
left_line left = ascii "refused 8 left " ++ (decimal left ++ ascii "\n")

-- the line `edge A B C` of an edge: the edge, and how many records name it
unfoldable pub edge_line : Edge → ℕ → List ℕ
edge_line e count = edge_name e ++ (ascii " " ++ (decimal count ++ ascii "\n"))

-- the lines of the edges at the first k ring positions
unfoldable pub edge_lines : (Edge → ℕ) → List ℕ → ℕ → List ℕ
edge_lines count ring zero = []
edge_lines count ring (suc k) = let e = edge_at (length ring) ring k in edge_lines count ring k ++ edge_line e (count e)

-- the line `total T`
unfoldable pub total_line : ℕ → List ℕ
total_line total = ascii "total " ++ (decimal total ++ ascii "\n")

-- the lines of a ring with crossings left, T the sum of the printed counts
unfoldable pub stopped_lines : (Edge → ℕ) → List ℕ → ℕ → List ℕ
stopped_lines count ring left = left_line left ++ (edge_lines count ring (length ring) ++ total_line (edge_sum count (length ring) ring))

-- ---- any other refusal
-- the line `refused K`
unfoldable pub refused_line : ℕ → List ℕ
refused_line k = ascii "refused " ++ (decimal k ++ ascii "\n")

-- ---- the whole text
unfoldable pub report_text : Report → List ℕ
report_text (Delivered moves cross told) = loop_lines (spots told) told.ring.now moves cross
report_text (Stopped left told) = stopped_lines (tally told) told.ring.now left
report_text (Refused r) = refused_line (number_of r)
report_text (Numbered k) = refused_line k

-- how many ring positions it tells
abbrev pub positions : Report → ℕ
positions (Delivered moves cross told) = length told.ring.now
positions (Stopped left told) = length told.ring.now
positions (Refused r) = 0
positions (Numbered k) = 0
