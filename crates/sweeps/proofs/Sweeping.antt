-- A sweep, one edge after the other of those that meet: what it comes to, and what it asks of edges and room.
use mathlib.Core.Path.{◌≡◌, refl, sym, ap, subst, subst⁻¹, ◌∙◌}
use mathlib.Core.Bool.{Bool, true, false, not, cond}
use mathlib.Core.List.{List, [], ◌++◌, map}
use Prim.Native.Nat.{ℕ, suc, ◌+◌, ◌<◌}
use native.Mathlib.Omega.{arith}
use lib.ListN.{length, get_or, take, drop, take-append-drop, length-map}
use lib.Seq.{take-length}
use native.Mathlib.Numerals.{add-one}
use Rattle.algebra.specs.Cases.{not_true, and_left}
use Rattle.algebra.specs.Counting.{length_snoc}
use Rattle.geometry.specs.Plane.{Point}
use Rattle.index_edge.specs.Edge.{Edge, eq_edge, lt_edge}
use Rattle.index_edge.proofs.Edges.{lt_edge_diff}
use Rattle.polygon.specs.Ring.{IsRing, at}
use Rattle.polygon.specs.Edges.{edge_at, edges}
use Rattle.intersection_set.specs.Store.{Store, push, rec_for, slot_for}
use Rattle.intersection_set.specs.Within.{Proper}
use Rattle.intersection_set.specs.Holds.{MayPush}
use Rattle.intersection_set.proofs.Slots.{Grows}
use Rattle.machine.specs.Board.{Board, meet_edges}
use Rattle.machine.proofs.Bounds.{scan_over_append, pairs_with_append}
use Rattle.machine.proofs.Kept.{scan_over_grows, pairs_with_grows}
use Rattle.machine.proofs.Turns.{scan_turn, start_inner}
use Rattle.sweeps.specs.Query.{other, met, contacts}
use Rattle.sweeps.specs.Sweep.{first_of, second_of, asked, wanted, sweep_over, Small, Fits}
use Rattle.sweeps.specs.declared.candidate.Against.{Against}
use Rattle.sweeps.specs.declared.candidate.Against.TheVariants.{Others, Greater}
use Rattle.std.proofs.lemmas.List.{get_or-map}
use Rattle.sweeps.specs.Several.{nowhere}
use Rattle.sweeps.proofs.Ends.{two, proper_at, meet_comm}
use Rattle.sweeps.proofs.Filters.{passes}
use Rattle.sweeps.proofs.Picking.{unwanted, wanted_met, sweep_met}

-- ---- one turn of the sweep
module _ (pt : ℕ → Point) where
  sweep_turn : (b : Against) (e : Edge) (l : List Edge) (i : ℕ) (d : Edge) (s : Store) → i < length l
      → let f = get_or l i d in
      let u = sweep_over pt b e (take i l) s in
      sweep_over pt b e (take (suc i) l) s ≡ cond (wanted pt b e f) (push (first_of b e f) (second_of b e f) u) u
  sweep_turn Others e l i d s h = scan_turn pt e l i d s h
  sweep_turn Greater e l i d s h = start_inner pt e l i d s h

  pub sweep_none : (b : Against) (e : Edge) (s : Store) → sweep_over pt b e [] s ≡ s
  sweep_none Others e s = refl
  sweep_none Greater e s = refl

  sweep_append : (b : Against) (e : Edge) (xs ys : List Edge) (s : Store) → sweep_over pt b e (xs ++ ys) s ≡ sweep_over pt b e ys (sweep_over pt b e xs s)
  sweep_append Others e xs ys s = scan_over_append pt e xs ys s
  sweep_append Greater e xs ys s = pairs_with_append pt e xs ys s

  sweep_grows : (b : Against) (e : Edge) (l : List Edge) (s : Store) → Grows s (sweep_over pt b e l s)
  sweep_grows Others e l s = scan_over_grows pt e l s
  sweep_grows Greater e l s = pairs_with_grows pt e l s

  -- a sweep only adds: its end bounds each of its moments
  sweep_part : (b : Against) (e : Edge) (l : List Edge) (i : ℕ) (s : Store) → Grows (sweep_over pt b e (take i l) s) (sweep_over pt b e l s)
  sweep_part b e l i s =
      subst (Grows (sweep_over pt b e (take i l) s))
      (sym (sweep_append b e (take i l) (drop i l) s) ∙ ap (λ (m : List Edge). sweep_over pt b e m s) (take-append-drop i l))
      (sweep_grows b e (drop i l) (sweep_over pt b e (take i l) s))

  wanted_differ : (b : Against) (e f : Edge) → wanted pt b e f ≡ true → eq_edge (first_of b e f) (second_of b e f) ≡ false
  wanted_differ Others e f h = not_true (eq_edge f e) (and_left (not (eq_edge f e)) (meet_edges pt f e) h)
  wanted_differ Greater e f h = lt_edge_diff e f (and_left (lt_edge e f) (meet_edges pt e f) h)

  -- a push of this turn is allowed
  may_sweep : (n : ℕ) (b : Against) (e : Edge) (l : List Edge) (i : ℕ) (d : Edge) (s : Store) → i < length l → Proper n e
      → let f = get_or l i d in
      Proper n f → Small n (sweep_over pt b e l s) → wanted pt b e f ≡ true → MayPush n (first_of b e f) (second_of b e f) (sweep_over pt b e (take i l) s)
  may_sweep n b e l i d s il pe pf small t =
      let u : Store = sweep_over pt b e (take i l) s in
      let x : Edge = first_of b e (get_or l i d) in
      let y : Edge = second_of b e (get_or l i d) in
      let pushed : sweep_over pt b e (take (suc i) l) s ≡ push x y u = sweep_turn b e l i d s il ∙ ap (λ (k : Bool). cond k (push x y u) u) t in
      let part : Grows (push x y u) (sweep_over pt b e l s) = subst (λ (v : Store). Grows v (sweep_over pt b e l s)) pushed (sweep_part b e l (suc i) s) in
      record {
        first = side b (get_or l i d) pe pf;
        second = other b (get_or l i d) pe pf;
        differ = wanted_differ b e (get_or l i d) t;
        room = omega (arith, small.few, part.more, length_snoc u.dense (rec_for x y u.pushes (slot_for u.free (length u.dense))));
        young = omega (arith, small.young, part.pushed);
      }
    where
      side : (b : Against) (f : Edge) → Proper n e → Proper n f → Proper n (first_of b e f)
      side Others f p q = q
      side Greater f p q = p

      other : (b : Against) (f : Edge) → Proper n e → Proper n f → Proper n (second_of b e f)
      other Others f p q = p
      other Greater f p q = q

-- ---- the sweep over the edges that meet e
module _ (n : ℕ) (pt : ℕ → Point) (r : List ℕ) (e : Edge) where
  abbrev found : List Edge
  found = map (edge_at n r) (contacts n pt r e)

  -- up to the i-th
  abbrev so_far : Against → ℕ → Store → Store
  so_far b i s = sweep_over pt b e (take i found) s

-- it is the sweep over all
all_swept : {n : ℕ} {pt : ℕ → Point} {r : List ℕ} {e : Edge} → IsRing n r → Board n pt → Proper n e
    → (b : Against) (s : Store) → sweep_over pt b e (found n pt r e) s ≡ sweep_over pt b e (edges n r) s
unfolding contacts
all_swept {n} {pt} {r} {e} ring board proper b =
    sweep_met pt e b (edge_at n r) (λ i. met pt e (edge_at n r i)) 0 n
    (λ j a l. unwanted pt e b (edge_at n r j) (meet_comm board.distinct proper (proper_at ring (two board) j (omega (arith, l)))))

-- f is the i-th of the edges that meet e
pub record Turn (n : ℕ) (pt : ℕ → Point) (r : List ℕ) (e : Edge) (i : ℕ) (f : Edge) : Type 0 where
  pub ring : IsRing n r
  pub board : Board n pt
  pub proper : Proper n e
  pub there : i < length (contacts n pt r e)
  pub is : f ≡ edge_at n r (at (contacts n pt r e) i)

module _ {n : ℕ} {pt : ℕ → Point} {r : List ℕ} {e : Edge} {i : ℕ} {f : Edge} (t : Turn n pt r e i f) where
  on_ring : at (contacts n pt r e) i < n
  unfolding contacts
  on_ring = let p = passes (λ j. met pt e (edge_at n r j)) 0 n i t.there in omega (arith, p.0)

  is_met : met pt e f ≡ true
  unfolding contacts
  is_met = ap (met pt e) t.is ∙ (passes (λ j. met pt e (edge_at n r j)) 0 n i t.there).1

  proper_there : Proper n f
  proper_there = subst⁻¹ (Proper n) t.is (proper_at t.ring (two t.board) (at (contacts n pt r e) i) on_ring)

  -- it is another
  pub another : eq_edge f e ≡ false
  another = not_true (eq_edge f e) (and_left (other e f) (meet_edges pt f e) is_met)

  in_list : i < length (found n pt r e)
  in_list = omega (arith, t.there, length-map (contacts n pt r e) (edge_at n r))

  in_place : get_or (found n pt r e) i nowhere ≡ f
  in_place = get_or-map (edge_at n r) (contacts n pt r e) i 0 nowhere t.there ∙ sym t.is

  module _ (b : Against) (s : Store) where
    -- it makes a record where it is asked
    pub next_turn : {k : Bool} → asked b e f ≡ k
        → cond k (push (first_of b e f) (second_of b e f) (so_far n pt r e b i s)) (so_far n pt r e b i s) ≡ so_far n pt r e b (i + 1) s
    next_turn h =
        let u = so_far n pt r e b i s in
        let comm = meet_comm t.board.distinct t.proper proper_there in
        ap (λ (k : Bool). cond k (push (first_of b e f) (second_of b e f) u) u) (sym (wanted_met pt e b f comm is_met ∙ h))
        ∙ ap (λ (g : Edge). cond (wanted pt b e g) (push (first_of b e g) (second_of b e g) u) u) (sym in_place)
        ∙ sym (sweep_turn pt b e (found n pt r e) i nowhere s in_list)
        ∙ ap (λ m. so_far n pt r e b m s) (sym (add-one i))

    -- which may be pushed
    pub may_now : asked b e f ≡ true → Fits n pt r b e s → MayPush n (first_of b e f) (second_of b e f) (so_far n pt r e b i s)
    may_now h fits =
        let comm = meet_comm t.board.distinct t.proper proper_there in
        subst (λ (g : Edge). MayPush n (first_of b e g) (second_of b e g) (so_far n pt r e b i s)) in_place
        (may_sweep pt n b e (found n pt r e) i nowhere s in_list t.proper (subst⁻¹ (Proper n) in_place proper_there)
        (subst⁻¹ (Small n) (all_swept t.ring t.board t.proper b s) fits)
        (ap (wanted pt b e) in_place ∙ wanted_met pt e b f comm is_met ∙ h))

-- ---- as the code has them: of m points the positions l
module _ {n m : ℕ} {pt : ℕ → Point} {r l : List ℕ} {e : Edge} (ring : IsRing n r) (board : Board n pt) (proper : Proper n e)
    (points : m ≡ n) (met : l ≡ contacts m pt r e) where
  they_are : l ≡ contacts n pt r e
  they_are = met ∙ (λ t. contacts (points t) pt r e)

  pub sweep_all : (b : Against) (i : ℕ) (s : Store) → i ≡ length l → so_far n pt r e b i s ≡ sweep_over pt b e (edges n r) s
  sweep_all b i s h =
      let all : i ≡ length (found n pt r e) = h ∙ ap length they_are ∙ sym (length-map (contacts n pt r e) (edge_at n r)) in
      ap (λ k. sweep_over pt b e k s) (ap (λ k. take k (found n pt r e)) all ∙ take-length (found n pt r e)) ∙ all_swept ring board proper b s

  -- a position says how many there are
  module _ {k : ℕ} (size : k ≡ m) (i : ℕ) (h : i < length l) where
    pub turn_at : {f : Edge} → f ≡ edge_at k r (at l i) → Turn n pt r e i f
    turn_at ef = record {
      ring = ring;
      board = board;
      proper = proper;
      there = subst (λ m. i < length m) they_are h;
      is = ef ∙ (λ t. edge_at ((size ∙ points) t) r (at (they_are t) i));
    }

    pub place_on_ring : IsRing k r × (at l i < k)
    place_on_ring = (subst⁻¹ (λ m. IsRing m r) (size ∙ points) ring, omega (arith, on_ring (turn_at refl), ap (λ m. at m i) they_are, size, points))
