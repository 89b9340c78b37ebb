-- Two loops with the same edges in any order have the same feed; so have the loop reversed and the loop started at another position.
use mathlib.Core.Path.{◌≡◌, refl, sym, ap, subst, ◌∙◌}
use mathlib.Core.Bool.{Bool}
use mathlib.Core.List.{List, [], ◌∷◌, ◌++◌, append-nil}
use Prim.Native.Nat.{ℕ, zero, suc, ◌+◌, ◌-◌, ◌≤◌, ◌<◌}
use native.Mathlib.Omega.{arith}
use lib.Dec.{ltb}
use lib.ListN.{length, take, drop, take-append-drop}
use Rattle.algebra.specs.Cases.{both, true_or_false}
use Rattle.algebra.specs.Counting.{one, count_p}
use Rattle.algebra.specs.Sums.{sum_to, sum_front, sum_same, sum_back, sum_over}
use Rattle.geometry.specs.Plane.{Point}
use Rattle.index_edge.specs.Edge.{Edge, edge, eq_edge}
use Rattle.index_edge.proofs.Edges.{eq_edge_true, eq_edge_refl}
use Rattle.polygon.specs.Ring.{next, prev, at, turned_round}
use Rattle.polygon.specs.Edges.{edge_at, edges, edge_sum}
use Rattle.polygon.proofs.Positions.{next_cases, prev_cases}
use Rattle.polygon.proofs.RingEdges.{moved_length}
use Rattle.polygon.proofs.EdgeSums.{sum_edges, count_edges}
use Rattle.polygon.proofs.WholeReversal.{whole, whole_lt, whole_sum, back_edge}
use Rattle.job.specs.Feed.{feed_between, edge_feed, feed_of, SameEdges, started_at}
use Rattle.job.proofs.Feeds.{feed_back}

-- ---- sums over the edges
-- equal sums for every f are equal counts
same_edges : (r s : List ℕ) → ((f : Edge → ℕ) → edge_sum f (length r) r ≡ edge_sum f (length s) s) → SameEdges r s
same_edges r s h e = count_edges (eq_edge e) (length r) r ∙ h (λ g. one (eq_edge e g)) ∙ sym (count_edges (eq_edge e) (length s) s)

-- ---- the feed as such a sum
abbrev along : (ℕ → Point) → Edge → ℕ
along pt e = feed_between (pt e.lo) (pt e.hi)

along_edge : (pt : ℕ → Point) (a b : ℕ) → along pt (edge a b) ≡ feed_between (pt a) (pt b)
along_edge pt a b = both (true_or_false (ltb a b)) (λ t. rw t) (λ t. rw t (feed_back (pt b) (pt a)))

feed_edges : (pt : ℕ → Point) (r : List ℕ) → feed_of pt r ≡ edge_sum (along pt) (length r) r
unfolding edge_feed
feed_edges pt r =
    sum_same (λ k. feed_between (pt (at r k)) (pt (at r (next (length r) k)))) (λ k. along pt (edge_at (length r) r k)) (length r)
    (λ k h. sym (along_edge pt (at r k) (at r (next (length r) k))))

feed_sum : (pt : ℕ → Point) (r : List ℕ) → feed_of pt r ≡ sum_over (along pt) (edges (length r) r)
feed_sum pt r = feed_edges pt r ∙ sym (sum_edges (along pt) (length r) r)

-- ---- equal counts, equal sums
-- e taken out of m: every count and the sum of f say so of the rest
record Without (f : Edge → ℕ) (e : Edge) (m : List Edge) : Type 0 where
  rest : List Edge
  counts : (p : Edge → Bool) → count_p p m ≡ one (p e) + count_p p rest
  sums : sum_over f m ≡ f e + sum_over f rest

take_out : (f : Edge → ℕ) (e : Edge) (m : List Edge) → 1 ≤ count_p (eq_edge e) m → Without f e m
take_out f e [] h = absurd (omega arith)
take_out f e (x ∷ m) h =
    both (true_or_false (eq_edge e x))
    (λ t.
    let same : e ≡ x = eq_edge_true e x t in
    record { rest = m; counts = λ p. omega (arith, ap (λ z. one (p z)) same); sums = omega (arith, ap f same) })
    (λ t.
    let w = take_out f e m (omega (arith, h, ap one t)) in
    record { rest = x ∷ w.rest; counts = λ p. omega (arith, w.counts p); sums = omega (arith, w.sums) })

same_sum : (f : Edge → ℕ) (l m : List Edge) → ((e : Edge) → count_p (eq_edge e) l ≡ count_p (eq_edge e) m) → sum_over f l ≡ sum_over f m
same_sum f [] [] h = refl
same_sum f [] (x ∷ m) h = absurd (omega (arith, h x, ap one (eq_edge_refl x)))
same_sum f (e ∷ l) m h =
    let w = take_out f e m (omega (arith, h e, ap one (eq_edge_refl e))) in
    omega (arith, w.sums, same_sum f l w.rest (λ g. omega (arith, h g, w.counts (eq_edge g))))

-- Two loops with the same edges in any order have the same feed.
pub same_edges_same_feed : (pt : ℕ → Point) (r s : List ℕ) → SameEdges r s → feed_of pt r ≡ feed_of pt s
same_edges_same_feed pt r s h = feed_sum pt r ∙ same_sum (along pt) (edges (length r) r) (edges (length s) s) h ∙ sym (feed_sum pt s)

-- ---- the loop reversed
-- reversed, position i takes the edge m - 1 - i of a ring of m + 1, and the last position the last edge
module _ (m : ℕ) (some : 0 < suc m) where
  abbrev from : ℕ → ℕ
  from i = prev (suc m) (whole (suc m) some i)

  from_other : (i : ℕ) → i < m → from i ≡ m - suc i
  from_other i l =
      let s = whole_sum (suc m) some i (omega arith) in
      both (prev_cases (suc m) (whole (suc m) some i) (whole_lt (suc m) some i (omega arith))) (λ h. absurd (omega (arith, s, h.0))) (λ h. omega (arith, s, h.1))

  from_last : from m ≡ m
  from_last =
      let s = whole_sum (suc m) some m (omega arith) in
      both (prev_cases (suc m) (whole (suc m) some m) (whole_lt (suc m) some m (omega arith))) (λ h. omega (arith, h.1)) (λ h. absurd (omega (arith, s, h.0)))

turned_sum : (f : Edge → ℕ) (n : ℕ) (r : List ℕ) → edge_sum f n (turned_round n r) ≡ edge_sum f n r
turned_sum f zero r = refl
turned_sum f (suc m) r =
    let some : 0 < suc m = omega arith in
    let g : ℕ → ℕ = λ i. f (edge_at (suc m) r i) in
    let there = sum_same (λ i. f (edge_at (suc m) (turned_round (suc m) r) i)) (λ i. g (from m some i)) (suc m) (λ i l. ap f (back_edge (suc m) some r i l)) in
    let others = sum_same (λ i. g (from m some i)) (λ i. g (m - suc i)) m (λ i l. ap g (from_other m some i l)) in
    omega (arith, there, others, ap g (from_last m some), sum_back g m)

pub reversed_edges : (r : List ℕ) → SameEdges (turned_round (length r) r) r
reversed_edges r =
    same_edges (turned_round (length r) r) r
    (λ f. ap (λ n. edge_sum f n (turned_round (length r) r)) (length_turned (length r) r) ∙ turned_sum f (length r) r)
  where
    length_turned : (n : ℕ) (s : List ℕ) → length (turned_round n s) ≡ n
    length_turned n s = moved_length n _ s

-- ---- the loop started at another position: a walk from its first point back to it
module _ (w : ℕ → ℕ → ℕ) where
  -- from a over the points of l to z
  abbrev walk : ℕ → List ℕ → ℕ → ℕ
  walk a [] z = w a z
  walk a (b ∷ l) z = w a b + walk b l z

  abbrev total : List ℕ → ℕ
  total r = sum_to (λ i. w (at r i) (at r (next (length r) i))) (length r)

  walk_append : (a : ℕ) (l : List ℕ) (b : ℕ) (m : List ℕ) (z : ℕ) → walk a (l ++ (b ∷ m)) z ≡ walk a l b + walk b m z
  walk_append a [] b m z = refl
  walk_append a (c ∷ l) b m z = omega (arith, walk_append c l b m z)

  walk_sum : (a : ℕ) (l : List ℕ) (z : ℕ) → walk a l z ≡ sum_to (λ i. w (at (a ∷ l) i) (at (a ∷ l) (suc i))) (length l) + w (at (a ∷ l) (length l)) z
  walk_sum a [] z = omega arith
  walk_sum a (b ∷ l) z = omega (arith, walk_sum b l z, sum_front (λ i. w (at (a ∷ b ∷ l) i) (at (a ∷ b ∷ l) (suc i))) (length l))

  total_walk : (a : ℕ) (l : List ℕ) → total (a ∷ l) ≡ walk a l a
  total_walk a l =
      let n = length l in
      let inner = sum_same (λ i. w (at (a ∷ l) i) (at (a ∷ l) (next (suc n) i))) (λ i. w (at (a ∷ l) i) (at (a ∷ l) (suc i))) n
      (λ i h. ap (λ k. w (at (a ∷ l) i) (at (a ∷ l) k)) (goes_on n i h)) in
      let last : w (at (a ∷ l) n) (at (a ∷ l) (next (suc n) n)) ≡ w (at (a ∷ l) n) a = ap (λ k. w (at (a ∷ l) n) (at (a ∷ l) k)) (comes_back n) in
      omega (arith, inner, last, walk_sum a l a)
    where
      goes_on : (n i : ℕ) → i < n → next (suc n) i ≡ suc i
      goes_on n i h = both (next_cases (suc n) i) (λ g. absurd (omega (arith, g.0, h))) (λ g. g.1)

      comes_back : (n : ℕ) → next (suc n) n ≡ 0
      comes_back n = both (next_cases (suc n) n) (λ g. g.1) (λ g. absurd (g.0 refl))

  total_shift : (p q : List ℕ) → total (q ++ p) ≡ total (p ++ q)
  total_shift [] q = ap total (append-nil q)
  total_shift (a ∷ p) [] = sym (ap total (append-nil (a ∷ p)))
  total_shift (a ∷ p) (b ∷ q) =
      total_walk b (q ++ (a ∷ p)) ∙ (omega (arith, walk_append b q a p b, walk_append a p b q a)) ∙ sym (total_walk a (p ++ (b ∷ q)))

pub started_edges : (k : ℕ) (r : List ℕ) → SameEdges (started_at k r) r
started_edges k r =
    subst (SameEdges (started_at k r)) (take-append-drop k r)
    (same_edges (started_at k r) (take k r ++ drop k r) (λ f. total_shift (λ a b. f (edge a b)) (take k r) (drop k r)))

pub feed_reversed : (pt : ℕ → Point) (r : List ℕ) → feed_of pt (turned_round (length r) r) ≡ feed_of pt r
feed_reversed pt r = same_edges_same_feed pt (turned_round (length r) r) r (reversed_edges r)

pub feed_started : (pt : ℕ → Point) (k : ℕ) (r : List ℕ) → feed_of pt (started_at k r) ≡ feed_of pt r
feed_started pt k r = same_edges_same_feed pt (started_at k r) r (started_edges k r)
