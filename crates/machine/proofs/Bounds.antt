-- How many records can live at once.
use mathlib.Core.Path.{◌≡◌, refl, subst, ◌∙◌}
use mathlib.Core.Bool.{Bool, true, false, not, ◌&&◌, ◌||◌, cond, false≢true}
use mathlib.Core.List.{List, [], ◌∷◌, ◌++◌}
use Prim.Native.Nat.{ℕ, zero, suc, ◌+◌, ◌-◌, ◌*◌, ◌≤◌}
use native.Mathlib.Omega.{arith}
use lib.ListN.{length, length-append, length-map}
use Rattle.algebra.specs.Counting.{one, count_p, count_append, count_length, count_le}
use Rattle.geometry.specs.Plane.{Point}
use Rattle.index_edge.specs.Edge.{Edge, edge_in, eq_edge, lt_edge}
use Rattle.intersection_set.specs.Store.{Rec, Store, push, counted}
use Rattle.machine.specs.Machine.{State, Laid, doubled, fresh, fresh_over, fresh_with, scan_over, scans, pairs_with, pairs}
use Rattle.polygon.specs.Edges.{edges, edge_at}
use Rattle.algebra.specs.Ranges.{up_from, up_from_length}
use Rattle.machine.specs.Board.{meet_edges}
use Rattle.algebra.specs.Cases.{and_left, and_right, both, true_or_false, or_right}
use Rattle.index_edge.proofs.Edges.{eq_edge_refl, eq_edge_true, lt_edge_other, lt_edge_irrefl}
use Rattle.intersection_set.proofs.Records.{is_pair, counted_is}
use Rattle.machine.proofs.Scans.{on_pair, fresh_with_count}
use Rattle.machine.proofs.Exactly.{Exact}

-- ---- a list that has of each pair no more than another is no longer
erase : Edge → Edge → List Rec → List Rec
erase a b [] = []
erase a b (r ∷ l) = cond (is_pair a b r) l (r ∷ erase a b l)

erase_count : (a b : Edge) (l : List Rec) (q : Edge → Edge → Bool) → 1 ≤ count_p (is_pair a b) l → count_p (on_pair q) (erase a b l) + one (q a b) ≡ count_p (on_pair q) l
unfolding erase
erase_count a b [] q h = absurd (omega arith)
erase_count a b (r ∷ l) q h = go (is_pair a b r) refl h (erase_count a b l q)
  where
    go : (t : Bool) → is_pair a b r ≡ t → 1 ≤ one t + count_p (is_pair a b) l → (1 ≤ count_p (is_pair a b) l → count_p (on_pair q) (erase a b l) + one (q a b) ≡ count_p (on_pair q) l)
        → count_p (on_pair q) (cond t l (r ∷ erase a b l)) + one (q a b) ≡ one (q r.e0 r.e1) + count_p (on_pair q) l
    go true p h k =
        let x : a ≡ r.e0 = eq_edge_true a r.e0 (and_left (eq_edge a r.e0) (eq_edge b r.e1) p) in
        let y : b ≡ r.e1 = eq_edge_true b r.e1 (and_right (eq_edge a r.e0) (eq_edge b r.e1) p) in
        rw (x, y) (omega arith)
    go false p h k = omega (arith, k (omega arith))

pub no_longer : (d g : List Rec) → ((a b : Edge) → count_p (is_pair a b) d ≤ count_p (is_pair a b) g) → length d ≤ length g
no_longer [] g h = omega arith
no_longer (r ∷ d) g h =
    let a : Edge = r.e0 in
    let b : Edge = r.e1 in
    let z : one (is_pair a b r) ≡ 1 = rw (eq_edge_refl r.e0, eq_edge_refl r.e1) in
    let some : 1 ≤ count_p (is_pair a b) g = omega (arith, h a b) in
    omega (
      arith,
      erase_count a b g (λ x y. true) some,
      count_length g,
      count_length (erase a b g),
      no_longer d (erase a b g)
          (λ u v. omega (arith, h u v, erase_count a b g (λ x y. eq_edge u x && eq_edge v y) some)),
    )

-- ---- of n edges fewer than n * n / 2 pairs are in order
tally : (Edge → Edge → Bool) → List Edge → List Edge → ℕ
tally q [] B = 0
tally q (a ∷ A) B = count_p (q a) B + tally q A B

tally_nil : (q : Edge → Edge → Bool) (A : List Edge) → tally q A [] ≡ 0
unfolding tally
tally_nil q [] = refl
tally_nil q (a ∷ A) = omega (arith, tally_nil q A)

tally_cons : (q : Edge → Edge → Bool) (A : List Edge) (b : Edge) (B : List Edge) → tally q A (b ∷ B) ≡ count_p (λ a. q a b) A + tally q A B
unfolding tally
tally_cons q [] b B = refl
tally_cons q (a ∷ A) b B = omega (arith, tally_cons q A b B)

tally_swap : (q : Edge → Edge → Bool) (A B : List Edge) → tally q A B ≡ tally (λ x y. q y x) B A
unfolding tally
tally_swap q A [] = tally_nil q A
tally_swap q A (b ∷ B) = omega (arith, tally_cons q A b B, tally_swap q A B)

-- of two edges just one of three holds
three : (a b : Edge) → one (lt_edge a b) + (one (lt_edge b a) + one (eq_edge a b)) ≡ 1
three a b =
    both (true_or_false (eq_edge a b))
    (λ p. rw (← eq_edge_true a b p, eq_edge_refl a, lt_edge_irrefl a))
    (λ p. rw (p, lt_edge_other a b p) (flip (lt_edge a b)))
  where
    flip : (t : Bool) → one t + (one (not t) + 0) ≡ 1
    flip true = refl
    flip false = refl

all_three : (A B : List Edge) → tally lt_edge A B + (tally (λ x y. lt_edge y x) A B + tally eq_edge A B) ≡ length A * length B
unfolding tally
all_three [] B = omega arith
all_three (a ∷ A) B = omega (arith, all_three A B, row a B)
  where
    row : (a : Edge) (B : List Edge) → count_p (lt_edge a) B + (count_p (λ y. lt_edge y a) B + count_p (eq_edge a) B) ≡ length B
    row a [] = refl
    row a (b ∷ B) = omega (arith, row a B, three a b)

pub member_some : (a : Edge) (l : List Edge) → edge_in a l ≡ true → 1 ≤ count_p (eq_edge a) l
member_some a [] h = absurd (false≢true h)
member_some a (f ∷ l) h = go (eq_edge a f) h (member_some a l)
  where
    go : (t : Bool) → (t || edge_in a l) ≡ true → (edge_in a l ≡ true → 1 ≤ count_p (eq_edge a) l) → 1 ≤ one t + count_p (eq_edge a) l
    go true h k = omega arith
    go false h k = omega (arith, k h)

diagonal : (A B : List Edge) → ((a : Edge) → edge_in a A ≡ true → 1 ≤ count_p (eq_edge a) B) → length A ≤ tally eq_edge A B
unfolding tally
diagonal [] B h = omega arith
diagonal (a ∷ A) B h = omega (arith, h a (rw (eq_edge_refl a)), diagonal A B (λ b u. h b (or_right (eq_edge b a) (edge_in b A) u)))

in_order_few : (l : List Edge) → 2 * tally lt_edge l l + length l ≤ length l * length l
in_order_few l = omega (arith, all_three l l, tally_swap lt_edge l l, diagonal l l (λ a h. member_some a l h))

square : (n x : ℕ) → x + n ≤ n * n → x ≤ n * (n - 1)
square zero x h = omega arith
square (suc k) x h = let e : suc k - 1 ≡ k = omega arith in rw e (omega arith)

pub edges_length : (n : ℕ) (r : List ℕ) → length (edges n r) ≡ n
edges_length n r = length-map (up_from 0 n) (edge_at n r) ∙ up_from_length 0 n

module _ (n : ℕ) (pt : ℕ → Point) where
  fresh_tally : (all l : List Edge) → length (fresh_over pt all l) ≤ tally lt_edge l all
  unfolding tally
  fresh_tally all [] = omega arith
  fresh_tally all (e ∷ l) =
      omega (
        arith,
        fresh_tally all l,
        length-append (fresh_with pt e all) (fresh_over pt all l),
        count_length (fresh_with pt e all),
        fresh_with_count pt e all (λ _ _. true),
        count_le (λ f. (lt_edge e f && meet_edges pt e f) && true) (lt_edge e) (λ f h. and_left (lt_edge e f) (meet_edges pt e f) (and_left (lt_edge e f && meet_edges pt e f) true h)) all,
      )

  pub fresh_few : (r : List ℕ) → 2 * length (fresh n pt r) ≤ n * (n - 1)
  fresh_few r =
      square n (2 * length (fresh n pt r))
      (let h : 2 * tally lt_edge (edges n r) (edges n r) + n ≤ n * n = subst (λ (k : ℕ). 2 * tally lt_edge (edges n r) (edges n r) + k ≤ k * k) (edges_length n r) (in_order_few (edges n r)) in
      omega (arith, fresh_tally (edges n r) (edges n r)))

  -- no pair is recorded more than twice
  twice : (x : ℕ) (b : Bool) → x * cond b 2 1 ≤ x + x
  twice x true = omega arith
  twice x false = omega arith

  -- so at most n * (n - 1) records live after each move
  pub few : (was : Edge → Edge → Bool) (s : State) (g : List Laid) → Exact n pt was s g → length s.store.dense ≤ n * (n - 1)
  few was s g ex =
      let F : List Rec = fresh n pt s.ring in
      omega (
        arith,
        fresh_few s.ring,
        length-append F F,
        no_longer s.store.dense (F ++ F)
            (λ a b. omega (arith, count_append (is_pair a b) F F, ex a b, twice (counted a b F) (doubled was a b g), counted_is a b F, counted_is a b s.store.dense)),
      )

-- ---- searches over a list and its continuation
module _ (pt : ℕ → Point) where
  pub scan_over_append : (e : Edge) (xs ys : List Edge) (s : Store) → scan_over pt e (xs ++ ys) s ≡ scan_over pt e ys (scan_over pt e xs s)
  scan_over_append e [] ys s = refl
  scan_over_append e (f ∷ xs) ys s = scan_over_append e xs ys _

  pub scans_append : (all xs ys : List Edge) (s : Store) → scans pt all (xs ++ ys) s ≡ scans pt all ys (scans pt all xs s)
  scans_append all [] ys s = refl
  scans_append all (e ∷ xs) ys s = scans_append all xs ys (scan_over pt e all s)

  pub pairs_with_append : (e : Edge) (xs ys : List Edge) (s : Store) → pairs_with pt e (xs ++ ys) s ≡ pairs_with pt e ys (pairs_with pt e xs s)
  pairs_with_append e [] ys s = refl
  pairs_with_append e (f ∷ xs) ys s = pairs_with_append e xs ys (cond (lt_edge e f && meet_edges pt e f) (push e f s) s)

  pub pairs_append : (all xs ys : List Edge) (s : Store) → pairs pt all (xs ++ ys) s ≡ pairs pt all ys (pairs pt all xs s)
  pairs_append all [] ys s = refl
  pairs_append all (e ∷ xs) ys s = pairs_append all xs ys (pairs_with pt e all s)
