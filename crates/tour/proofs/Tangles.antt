-- The counts by edge that are printed where a job's picks are used up: they are those of the machine, and their sum is twice the records left.
use mathlib.Core.Path.{◌≡◌, refl, sym, ap, subst, ◌∙◌}
use mathlib.Core.Bool.{Bool, true, false}
use mathlib.Core.List.{List, ◌++◌}
use Prim.Native.Nat.{ℕ, ◌-◌, ◌*◌, ◌≤◌, ◌<◌}
use native.Mathlib.Omega.{arith}
use lib.IntN.{ℤ}
use lib.ListN.{length, get_or, take}
use lib.Seq.{get_or-take}
use Rattle.algebra.specs.Size.{mul_bound}
use Rattle.algebra.specs.Ranges.{up_from}
use Rattle.geometry.specs.Plane.{Point}
use Rattle.geometry.specs.Lent.{points, Lent}
use Rattle.index_edge.specs.Edge.{Edge}
use Rattle.polygon.specs.Edges.{edge_at, edge_sum}
use Rattle.intersection_set.specs.Store.{Store}
use Rattle.intersection_set.specs.Lists.{head_place, tangle, tangles_of}
use Rattle.intersection_set.proofs.Showing.{tangle_shown}
use Rattle.polygon.specs.Ring.{IsRing}
use Rattle.machine.specs.Machine.{after}
use Rattle.intersection_set.specs.Pool.{tangle_at}
use Rattle.intersection_set.specs.Within.{Proper}
use Rattle.intersection_set.proofs.HeadPlaces.{placed, head_below}
use Rattle.machine.specs.Machine.{place}
use Rattle.machine.specs.Answer.{Answer, refused, unfinished, delivered, too_many, call}
use Rattle.machine.proofs.Accepted.{accepted, place_picks}
use Rattle.machine.proofs.Tangles.{run_tangles}
use Rattle.sweeps.proofs.Ends.{proper_at}
use Rattle.job.specs.Job.{point_count, accepted as read}
use Rattle.job.specs.Tallied.{Tallied}
use Rattle.job.specs.Text.{left_line, edge_lines, total_line, stopped_lines}
use Rattle.job.proofs.Lines.{stopped_same}
use Rattle.two_opt.specs.Entry.{Loan, short_of, Entry}
use Rattle.tour.specs.Printed.{told, tangle_after, run_text, picks, board, printed}
use Rattle.tour.proofs.Delivered.{stopped_refused, stopped_as}
use Rattle.tour.proofs.Room.{Roomy, roomy}

-- a text says nothing of the counts of other edges
pub told_same : (pt : ℕ → Point) (f g : Edge → ℕ) (a : Answer)
    → ((l : List ℕ) (m k : ℕ) → a ≡ unfinished l m k → (i : ℕ) → i < length l → f (edge_at (length l) l i) ≡ g (edge_at (length l) l i)) → told pt f a ≡ told pt g a
unfolding told
told_same pt f g (refused k) h = refl
told_same pt f g (unfinished l m k) h = stopped_same f g l (h l m k refl) k
told_same pt f g (delivered l m c) h = refl

-- ---- the counts of a ring's edges
module _ {n : ℕ} {l : List ℕ} (ring : IsRing n l) (two : 2 ≤ n) where
  -- each edge has its place
  proper : (i : ℕ) → i < length l → Proper (length l) (edge_at (length l) l i)
  proper = rw ring.len (proper_at ring two)

  -- so they can be told of buffers that are long enough
  pub ring_tallied : (tangles : List ℕ) → n ≤ 256 → n * (n - 1) ≤ length tangles → Tallied l tangles
  ring_tallied tangles few room = record { few = omega (arith, ring.len, few); proper = proper; room = rw ring.len room }

  -- buffers whose first entries are the table of a store have its counts
  pub counts_shown : (tangles : List ℕ) (s : Store) → take (n * (n - 1)) tangles ≡ tangles_of n s
      → (i : ℕ) → i < length l → tangle_at n (edge_at (length l) l i) tangles ≡ tangle (edge_at (length l) l i) s
  counts_shown tangles s whole i h =
      let g : Edge = edge_at (length l) l i in
      let p : Proper n g = subst (λ (j : ℕ). Proper j g) ring.len (proper i h) in
      sym (get_or-take (n * (n - 1)) tangles (head_place n g) 0 (head_below n g (placed p))) ∙ ap (λ t. get_or t (head_place n g) 0) whole ∙ tangle_shown n s g p

-- ---- a call
module _ (n : ℕ) (pt : ℕ → Point) (short : Bool) (r cs : List ℕ) {l : List ℕ} {m k : ℕ} (e : call n pt short r cs ≡ unfinished l m k) where
  pub stopped_tallied : (tangles : List ℕ) → n ≤ 48 → 2256 ≤ length tangles → Tallied l tangles
  stopped_tallied tangles few room =
      let b = ((accepted n pt short (too_many cs) r).0 (stopped_refused n pt short r cs e)).board in
      let size : n * (n - 1) ≤ 48 * 47 = mul_bound n (n - 1) 48 47 few (omega arith) in
      ring_tallied (stopped_as n pt short r cs e).2 (omega (arith, b.three)) tangles (omega (arith, few)) (omega (arith, room, size))

-- what an entry leaves is told as the machine's counts are
pub told_counts : {n : ℕ} {x y : List ℤ} {cs : List ℕ} {was is : Loan} {a : Answer} → Entry n x y (up_from 0 n) cs was is a → Lent n x y → n ≤ 48 → Roomy 48 was
    → told (points x y) (λ e. tangle_at n e is.records.tangles) a ≡ run_text n (points x y) cs
told_counts {n} {x} {y} {cs} {was} {is} {a} e given few room =
    let pt : ℕ → Point = points x y in
    let called : a ≡ call n pt false (up_from 0 n) cs = e.answers ∙ ap (λ s. call n pt s (up_from 0 n) cs) (roomy 48 n x y was given.lx given.ly few room) in
    told_same pt (λ e. tangle_at n e is.records.tangles) (tangle_after n pt cs) a same ∙ ap (told pt (tangle_after n pt cs)) called
  where
    same : (l : List ℕ) (m k : ℕ) → a ≡ unfinished l m k → (i : ℕ) → i < length l → tangle_at n (edge_at (length l) l i) is.records.tangles ≡ tangle_after n (points x y) cs (edge_at (length l) l i)
    same l m k stopped =
        let pt : ℕ → Point = points x y in
        let u = sym e.answers ∙ stopped in
        let passed = stopped_refused n pt (short_of n x y was) (up_from 0 n) cs u in
        let b = ((accepted n pt (short_of n x y was) (too_many cs) (up_from 0 n)).0 passed).board in
        counts_shown (stopped_as n pt (short_of n x y was) (up_from 0 n) cs u).2 (omega (arith, b.three)) is.records.tangles (after n pt place cs (up_from 0 n)).now.store (e.ended passed).shows.tangles

-- ---- a job
-- Where its picks are used up with `left` records left, T is twice `left`.
pub total_twice : (job : List ℕ) → read job 48 48 4096 ≡ true → {l : List ℕ} {m left : ℕ}
    → call (point_count job) (board job) false (up_from 0 (point_count job)) (picks job) ≡ unfinished l m left
    → printed job ≡ left_line left ++ (edge_lines (tangle_after (point_count job) (board job) (picks job)) l (length l) ++ total_line (2 * left))
unfolding printed told stopped_lines
total_twice job ok {l} {m} {left} stopped =
    let n : ℕ = point_count job in
    let pt : ℕ → Point = board job in
    let r : List ℕ = up_from 0 n in
    let count : Edge → ℕ = tangle_after n pt (picks job) in
    let (same, k, ring) = stopped_as n pt false r (picks job) stopped in
    let a = (accepted n pt false (too_many (picks job)) r).0 (stopped_refused n pt false r (picks job) stopped) in
    let twice : edge_sum count (length l) l ≡ 2 * left
    = ap (λ j. edge_sum count j l) ring.len ∙ ap (edge_sum count n) same ∙ run_tangles n pt a.board place place_picks r (picks job) a.ring ∙ ap (λ j. 2 * j) (sym k) in
    rw (ok, stopped, twice)
