-- What a scan, the scans of a move, the start and a fresh search count of each pair.
use mathlib.Core.Path.{◌≡◌, refl, sym, ap, ◌∙◌}
use mathlib.Core.Bool.{Bool, true, false, not, ◌&&◌, cond, true≢false, and-false, and_comm}
use mathlib.Core.List.{List, [], ◌∷◌}
use Prim.Native.Nat.{ℕ, ◌+◌}
use native.Mathlib.Omega.{arith}
use lib.ListN.{length}
use Rattle.algebra.specs.Counting.{one, count_p, count_append, count_snoc, count_same, count_length, count_two, count_off}
use Rattle.geometry.specs.Plane.{Point}
use Rattle.index_edge.specs.Edge.{Edge, eq_edge, lt_edge, edge_in}
use Rattle.intersection_set.specs.Store.{Rec, Store, empty, push, counted}
use Rattle.polygon.specs.Edges.{edges}
use Rattle.machine.specs.Board.{meet_edges}
use Rattle.machine.specs.Machine.{scan_over, scans, pairs_with, pairs, start, fresh_with, fresh_over, fresh}
use Rattle.algebra.specs.Cases.{and_left, and_right, both, true_or_false}
use Rattle.index_edge.proofs.Edges.{eq_edge_true, eq_edge_of, eq_edge_sym, lt_edge_other, lt_edge_diff, lt_edge_asym, at_edge}
use Rattle.intersection_set.proofs.Records.{is_pair, counted_is, Once, occ_and}

abbrev pub on_pair : (Edge → Edge → Bool) → Rec → Bool
on_pair q r = q r.e0 r.e1

-- the two edges, smaller first
abbrev pub sorted : (Edge → Edge → Bool) → Edge → Edge → Bool
sorted q f e = q (cond (lt_edge f e) f e) (cond (lt_edge f e) e f)

pub push_if_lem : (b : Bool) (f e : Edge) (s : Store) (q : Edge → Edge → Bool)
    → count_p (on_pair q) (cond b (push f e s) s).dense ≡ count_p (on_pair q) s.dense + one (b && sorted q f e)
push_if_lem true f e s q = count_snoc (on_pair q) s.dense _
push_if_lem false f e s q = omega arith

and_off : (m x : Bool) → x ≡ false → one (m && x) ≡ 0
and_off m x h = rw (h, and-false)

-- of a pair a < b, what the pair f, e counts for
module _ (a b : Edge) (lt : lt_edge a b ≡ true) where
  hit_none : (e f : Edge) → eq_edge f e ≡ true → (eq_edge a f && eq_edge b e) ≡ false
  hit_none e f h =
      both (true_or_false (eq_edge a f && eq_edge b e))
      (λ p.
      let x : a ≡ f = eq_edge_true a f (and_left (eq_edge a f) (eq_edge b e) p) in
      let y : b ≡ e = eq_edge_true b e (and_right (eq_edge a f) (eq_edge b e) p) in
      absurd (true≢false (sym (eq_edge_of a b (x ∙ eq_edge_true f e h ∙ sym y)) ∙ lt_edge_diff a b lt)))
      (λ p. p)

  hit_wrong : (e f : Edge) → lt_edge f e ≡ true → (eq_edge a e && eq_edge b f) ≡ false
  hit_wrong e f h =
      both (true_or_false (eq_edge a e && eq_edge b f))
      (λ p.
      let x : a ≡ e = eq_edge_true a e (and_left (eq_edge a e) (eq_edge b f) p) in
      let y : b ≡ f = eq_edge_true b f (and_right (eq_edge a e) (eq_edge b f) p) in
      absurd (true≢false (sym h ∙ rw (← x, ← y) (lt_edge_asym a b lt))))
      (λ p. p)

  pub hit : (m : Bool) (f e : Edge)
      → one ((not (eq_edge f e) && m) && sorted (λ x y. eq_edge a x && eq_edge b y) f e) ≡ one (m && (eq_edge a f && eq_edge b e)) + one (m && (eq_edge a e && eq_edge b f))
  hit m f e =
      both (true_or_false (eq_edge f e))
      (λ p.
      rw p
      (omega (arith, and_off m (eq_edge a f && eq_edge b e) (hit_none e f p), and_off m (eq_edge a e && eq_edge b f) (hit_none f e (eq_edge_sym e f ∙ p)))))
      (λ p.
      both (true_or_false (lt_edge f e))
      (λ q. rw (p, q) (omega (arith, and_off m (eq_edge a e && eq_edge b f) (hit_wrong e f q))))
      (λ q. rw (p, q) (omega (arith, and_off m (eq_edge a f && eq_edge b e) (hit_wrong f e (lt_edge_other f e p ∙ ap not q))))))

-- a pair that is not in order is never counted
pub hit_not : (a b : Edge) → lt_edge a b ≡ false → (f e : Edge) → (not (eq_edge f e) && sorted (λ x y. eq_edge a x && eq_edge b y) f e) ≡ false
hit_not a b h f e =
    both (true_or_false (eq_edge f e)) (λ p. rw p)
    (λ p.
    both (true_or_false (lt_edge f e))
    (λ q. rw (p, q) (no a b f e h q))
    (λ q. rw (p, q) (no a b e f h (lt_edge_other f e p ∙ ap not q))))
  where
    no : (a b x y : Edge) → lt_edge a b ≡ false → lt_edge x y ≡ true → (eq_edge a x && eq_edge b y) ≡ false
    no a b x y h k =
        both (true_or_false (eq_edge a x && eq_edge b y))
        (λ p. absurd (true≢false (sym k ∙ rw (← eq_edge_true a x (and_left (eq_edge a x) (eq_edge b y) p), ← eq_edge_true b y (and_right (eq_edge a x) (eq_edge b y) p)) h)))
        (λ p. p)

module _ (pt : ℕ → Point) where
  -- ---- one scan
  pub scan_over_count : (e : Edge) (l : List Edge) (s : Store) (q : Edge → Edge → Bool)
      → count_p (on_pair q) (scan_over pt e l s).dense ≡ count_p (on_pair q) s.dense + count_p (λ f. (not (eq_edge f e) && meet_edges pt f e) && sorted q f e) l
  scan_over_count e [] s q = omega arith
  scan_over_count e (f ∷ l) s q =
      omega (arith, scan_over_count e l (cond (not (eq_edge f e) && meet_edges pt f e) (push f e s) s) q, push_if_lem (not (eq_edge f e) && meet_edges pt f e) f e s q)

  -- the pair a < b, counted by a scan of e over a list that has each edge once
  module _ (a b : Edge) (lt : lt_edge a b ≡ true) where
    abbrev the_pair : Edge → Edge → Bool
    the_pair x y = eq_edge a x && eq_edge b y

    half : (a b e : Edge) (l : List Edge) → Once l → count_p (λ f. meet_edges pt f e && (eq_edge a f && eq_edge b e)) l ≡ one (eq_edge b e && (edge_in a l && meet_edges pt a b))
    half a b e l o =
        count_same _ (λ f. eq_edge a f && (eq_edge b e && meet_edges pt f e)) (λ f. turn3 (meet_edges pt f e) (eq_edge a f) (eq_edge b e)) l
        ∙ occ_and a (λ f. eq_edge b e && meet_edges pt f e) l o
        ∙ ap (λ (x : Bool). one (edge_in a l && x)) (at_edge b e (λ x. meet_edges pt a x))
        ∙ ap one (swap3 (edge_in a l) (eq_edge b e) (meet_edges pt a b))
      where
        turn3 : (m x y : Bool) → (m && (x && y)) ≡ (x && (y && m))
        turn3 true true true = refl
        turn3 true true false = refl
        turn3 true false y = refl
        turn3 false true true = refl
        turn3 false true false = refl
        turn3 false false y = refl

        swap3 : (m x y : Bool) → (m && (x && y)) ≡ (x && (m && y))
        swap3 true true y = refl
        swap3 true false y = refl
        swap3 false true y = refl
        swap3 false false y = refl

    pub scan_hits : (e : Edge) (l : List Edge) → Once l
        → count_p (λ f. (not (eq_edge f e) && meet_edges pt f e) && sorted the_pair f e) l ≡ one (eq_edge b e && (edge_in a l && meet_edges pt a b)) + one (eq_edge a e && (edge_in b l && meet_edges pt b a))
    scan_hits e l o =
        omega (
          arith,
          count_two (λ f. (not (eq_edge f e) && meet_edges pt f e) && sorted the_pair f e) (λ f. meet_edges pt f e && (eq_edge a f && eq_edge b e)) (λ f. meet_edges pt f e && (eq_edge a e && eq_edge b f)) (λ f. hit a b lt (meet_edges pt f e) f e) l,
          half a b e l o,
          count_same (λ f. meet_edges pt f e && (eq_edge a e && eq_edge b f)) (λ f. meet_edges pt f e && (eq_edge b f && eq_edge a e)) (λ f. ap (λ (x : Bool). meet_edges pt f e && x) (and_comm (eq_edge a e) (eq_edge b f))) l,
          half b a e l o,
        )

    scans_the_pair : (all : List Edge) → Once all → (ls : List Edge) (s : Store)
        → count_p (is_pair a b) (scans pt all ls s).dense
        ≡ count_p (is_pair a b) s.dense + (count_p (λ e. eq_edge b e && (edge_in a all && meet_edges pt a b)) ls + count_p (λ e. eq_edge a e && (edge_in b all && meet_edges pt b a)) ls)
    scans_the_pair all o [] s = omega arith
    scans_the_pair all o (e ∷ ls) s = omega (arith, scans_the_pair all o ls (scan_over pt e all s), scan_over_count e all s the_pair, scan_hits e all o)

    -- the law of the scans of a move
    pub scans_counted : (all ls : List Edge) (s : Store) → Once all → Once ls
        → counted a b (scans pt all ls s).dense
        ≡ counted a b s.dense + (one (edge_in b ls && (edge_in a all && meet_edges pt a b)) + one (edge_in a ls && (edge_in b all && meet_edges pt b a)))
    scans_counted all ls s o o' =
        omega (
          arith,
          counted_is a b (scans pt all ls s).dense,
          counted_is a b s.dense,
          scans_the_pair all o ls s,
          occ_and b (λ _. edge_in a all && meet_edges pt a b) ls o',
          occ_and a (λ _. edge_in b all && meet_edges pt b a) ls o',
        )

  -- a pair out of order gains nothing
  pub scans_not : (a b : Edge) → lt_edge a b ≡ false → (all ls : List Edge) (s : Store) → count_p (is_pair a b) (scans pt all ls s).dense ≡ count_p (is_pair a b) s.dense
  scans_not a b h all [] s = refl
  scans_not a b h all (e ∷ ls) s =
      omega (
        arith,
        scans_not a b h all ls (scan_over pt e all s),
        scan_over_count e all s (λ x y. eq_edge a x && eq_edge b y),
        count_off _ (λ f. drop_mid (not (eq_edge f e)) (meet_edges pt f e) _ (hit_not a b h f e)) all,
      )
    where
      drop_mid : (x m y : Bool) → (x && y) ≡ false → ((x && m) && y) ≡ false
      drop_mid true true y h = h
      drop_mid true false y h = refl
      drop_mid false m y h = refl

  -- ---- the start and the fresh search
  pub fresh_with_count : (e : Edge) (l : List Edge) (q : Edge → Edge → Bool) → count_p (on_pair q) (fresh_with pt e l) ≡ count_p (λ f. (lt_edge e f && meet_edges pt e f) && q e f) l
  fresh_with_count e [] q = refl
  fresh_with_count e (f ∷ l) q = go (lt_edge e f && meet_edges pt e f) (fresh_with_count e l q)
    where
      go : (b : Bool) → count_p (on_pair q) (fresh_with pt e l) ≡ count_p (λ f. (lt_edge e f && meet_edges pt e f) && q e f) l
          → count_p (on_pair q) (cond b (record { e0 = e; e1 = f; age = 0; slot = 0 } ∷ fresh_with pt e l) (fresh_with pt e l)) ≡ one (b && q e f) + count_p (λ f. (lt_edge e f && meet_edges pt e f) && q e f) l
      go true h = omega arith
      go false h = omega arith

  pairs_with_count : (e : Edge) (l : List Edge) (s : Store) (q : Edge → Edge → Bool)
      → count_p (on_pair q) (pairs_with pt e l s).dense ≡ count_p (on_pair q) s.dense + count_p (λ f. (lt_edge e f && meet_edges pt e f) && q e f) l
  pairs_with_count e [] s q = omega arith
  pairs_with_count e (f ∷ l) s q =
      omega (
        arith,
        pairs_with_count e l (cond (lt_edge e f && meet_edges pt e f) (push e f s) s) q,
        push_if_lem (lt_edge e f && meet_edges pt e f) e f s q,
        in_order (lt_edge e f) refl (meet_edges pt e f),
      )
    where
      in_order : (b : Bool) → lt_edge e f ≡ b → (m : Bool) → one ((b && m) && sorted q e f) ≡ one ((b && m) && q e f)
      in_order true h m = rw h
      in_order false h m = refl

  pairs_count : (all l : List Edge) (s : Store) (q : Edge → Edge → Bool) → count_p (on_pair q) (pairs pt all l s).dense ≡ count_p (on_pair q) s.dense + count_p (on_pair q) (fresh_over pt all l)
  pairs_count all [] s q = omega arith
  pairs_count all (e ∷ l) s q =
      omega (
        arith,
        pairs_count all l (pairs_with pt e all s) q,
        pairs_with_count e all s q,
        fresh_with_count e all q,
        count_append (on_pair q) (fresh_with pt e all) (fresh_over pt all l),
      )

module _ (n : ℕ) (pt : ℕ → Point) where
  -- the start counts what a fresh search counts
  pub start_count : (r : List ℕ) (q : Edge → Edge → Bool) → count_p (on_pair q) (start n pt r).dense ≡ count_p (on_pair q) (fresh n pt r)
  start_count r q = omega (arith, pairs_count pt (edges n r) (edges n r) empty q)

  pub start_length : (r : List ℕ) → length (start n pt r).dense ≡ length (fresh n pt r)
  start_length r = omega (arith, count_length (start n pt r).dense, count_length (fresh n pt r), start_count r (λ _ _. true))

  -- a fresh search finds a pair once: in order, both of the ring, meeting
  abbrev pub found : List ℕ → Edge → Edge → Bool
  found r a b = edge_in a (edges n r) && (edge_in b (edges n r) && (lt_edge a b && meet_edges pt a b))

  pub fresh_counted : (r : List ℕ) → Once (edges n r) → (a b : Edge) → counted a b (fresh n pt r) ≡ one (found r a b)
  fresh_counted r o a b = counted_is a b (fresh n pt r) ∙ over (edges n r) ∙ occ_and a (λ _. K) (edges n r) o
    where
      K : Bool
      K = edge_in b (edges n r) && (lt_edge a b && meet_edges pt a b)

      swap5 : (t x y : Bool) → (t && (x && y)) ≡ (y && (x && t))
      swap5 true true true = refl
      swap5 true true false = refl
      swap5 true false true = refl
      swap5 true false false = refl
      swap5 false true true = refl
      swap5 false true false = refl
      swap5 false false true = refl
      swap5 false false false = refl

      swap6 : (t x y : Bool) → (t && (x && y)) ≡ (x && (t && y))
      swap6 true x y = refl
      swap6 false true y = refl
      swap6 false false y = refl

      with_one : (e : Edge) → count_p (is_pair a b) (fresh_with pt e (edges n r)) ≡ one (eq_edge a e && K)
      with_one e =
          fresh_with_count pt e (edges n r) (λ x y. eq_edge a x && eq_edge b y)
          ∙ count_same _ (λ f. eq_edge b f && (eq_edge a e && (lt_edge e f && meet_edges pt e f))) (λ f. swap5 (lt_edge e f && meet_edges pt e f) (eq_edge a e) (eq_edge b f)) (edges n r)
          ∙ occ_and b (λ f. eq_edge a e && (lt_edge e f && meet_edges pt e f)) (edges n r) o
          ∙ ap one (swap6 (edge_in b (edges n r)) (eq_edge a e) _ ∙ at_edge a e (λ x. edge_in b (edges n r) && (lt_edge x b && meet_edges pt x b)))

      over : (l : List Edge) → count_p (is_pair a b) (fresh_over pt (edges n r) l) ≡ count_p (λ e. eq_edge a e && K) l
      over [] = refl
      over (e ∷ l) = omega (arith, count_append (is_pair a b) (fresh_with pt e (edges n r)) (fresh_over pt (edges n r) l), with_one e, over l)

  -- two rings with the same edges: a fresh search counts the same
  pub fresh_same : (r r' : List ℕ) → Once (edges n r) → Once (edges n r') → ((e : Edge) → edge_in e (edges n r') ≡ edge_in e (edges n r)) → (a b : Edge) → counted a b (fresh n pt r') ≡ counted a b (fresh n pt r)
  fresh_same r r' o o' h a b =
      fresh_counted r' o' a b
      ∙ ap (λ (t : Bool). one (t && (edge_in b (edges n r') && (lt_edge a b && meet_edges pt a b)))) (h a)
      ∙ ap (λ (t : Bool). one (edge_in a (edges n r) && (t && (lt_edge a b && meet_edges pt a b)))) (h b)
      ∙ sym (fresh_counted r o a b)
