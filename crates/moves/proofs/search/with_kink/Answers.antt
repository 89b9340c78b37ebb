-- `with_kink` meets its contract: the edges of the second run come after those of the first.
use mathlib.Core.Path.{◌≡◌, ◌∙◌}
use Prim.Native.Nat.{ℕ}
use Rattle.moves.specs.Walk.{ring_of, place_of, point_of}
use Rattle.moves.specs.Best.{better}
use Rattle.moves.specs.Runs.{edges_of}
use Rattle.moves.specs.declared.vertex.Vertex.{Vertex}
use Rattle.moves.specs.declared.search.Best.{Best}
use Rattle.moves.specs.declared.extremes.Run.{Run}
use Rattle.moves.proofs.KinkSearch.{of_both, of_first}
use Rattle.moves.proofs.search.with_kink.Goals as goal

-- a kink made of v searches as v does
same_kink : {v w : Vertex} → w ≡ v → (before : ℕ) (s : Run) (b : Best) {c : Best} → c ≡ better w.points.n (point_of w) (ring_of w) (place_of w) before (edges_of w.points.n s) b →
    c ≡ better v.points.n (point_of v) (ring_of v) (place_of v) before (edges_of v.points.n s) b
same_kink e before s b f = f ∙ (λ t. better (e t).points.n (point_of (e t)) (ring_of (e t)) (place_of (e t)) before (edges_of (e t).points.n s) b)

pub returns-then-of_a-a : goal.returns-then-of_a-a
returns-then-of_a-a c =
    let v = c.args.vertex in
    let s = c.args in
    of_first v.points.n (point_of v) (ring_of v) s.a s.b (place_of v) s.best (same_kink c.new-kink.ensures 0 s.a s.best c.better_on_run-of_a.ensures) c.if-of_a-a.true

pub returns : goal.returns
returns c =
    let v = c.args.vertex in
    let s = c.args in
    of_both v.points.n (point_of v) (ring_of v) s.a s.b (place_of v) s.best (same_kink c.new-kink.ensures 0 s.a s.best c.better_on_run-of_a.ensures)
    (same_kink c.new-kink.ensures s.a.edges s.b c.better_on_run-of_a.result c.better_on_run.ensures)
