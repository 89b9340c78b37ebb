-- Demand 3 holds: for runs from any state whose record is exact, and so for those from the start.
use mathlib.Core.Path.{◌≡◌, ◌∙◌, ap, sym}
use mathlib.Core.Bool.{Bool, true, false, not, ◌&&◌, cond}
use mathlib.Core.List.{List, []}
use mathlib.Core.Logic.{◌≢◌, ◌↔◌, inl, inr}
use Prim.Native.Nat.{ℕ, ◌*◌, ◌<◌}
use native.Mathlib.Omega.{arith}
use lib.ListN.{length}
use borrow.Author.Tests.{eq-eqb, ne_eqb}
use Rattle.geometry.specs.Plane.{Point}
use Rattle.index_edge.specs.Edge.{Edge, eq_edge, lt_edge, edge_in}
use Rattle.intersection_set.specs.Store.{counted}
use Rattle.machine.specs.Machine.{State, Traced, doubled, nothing_twice, start, begin, run_word, after, fresh}
use Rattle.polygon.specs.Ring.{IsRing}
use Rattle.polygon.specs.Edges.{edges, IsEdge}
use Rattle.machine.specs.Board.{meet_edges, Board}
use Rattle.machine.specs.Answer.{delivered, finish, answer_from}
use Rattle.machine.specs.Demand3.{Pair, Search, Loop, Demand3, Least, Picks}
use Rattle.machine.specs.Onward.{Onward}
use Rattle.geometry.specs.Segment.{Meet}
use Rattle.std.proofs.lemmas.List.{nil_from_length}
use Rattle.algebra.specs.Counting.{one}
use Rattle.algebra.specs.Cases.{both, true_or_false, and_left, and_right}
use Rattle.index_edge.proofs.Edges.{eq_edge_false, lt_edge_other}
use Rattle.polygon.proofs.RingEdges.{member_edge, edge_member}
use Rattle.polygon.proofs.EachOnce.{ring_has}
use Rattle.machine.proofs.Corners.{ring_apart}
use Rattle.geometry.proofs.Points.{is_below}
use Rattle.machine.proofs.Runs.{Corner}
use Rattle.machine.proofs.EdgesMeet.{meet_edges_is, meet_edges_comm}
use Rattle.geometry.proofs.Meeting.{meets_decides}
use Rattle.machine.proofs.Planned.{least}
use Rattle.intersection_set.proofs.Records.{counted_is}
use Rattle.machine.proofs.Scans.{found, fresh_counted, fresh_same, start_count}
use Rattle.machine.proofs.GoodPlan.{once_edges, ring_edge_apart}
use Rattle.machine.proofs.Exactly.{Inv, begin_inv, run_inv}
use Rattle.machine.proofs.Moves.{moves_from, move_count, none_left, none_counted, run_longer, start_count_is}
use Rattle.machine.proofs.Finish.{finish_ring, finish_edges, finish_is, finish_turn}

module _ (n : ℕ) (pt : ℕ → Point) (board : Board n pt) where
  meeting_is : (e f : Edge) → pt e.lo ≢ pt e.hi → pt f.lo ≢ pt f.hi → (meet_edges pt e f ≡ true) ↔ Meet (pt e.lo) (pt e.hi) (pt f.lo) (pt f.hi)
  meeting_is e f ne nf = rw (meet_edges_is pt e f) (meets_decides (pt e.lo) (pt e.hi) (pt f.lo) (pt f.hi) ne nf)

  -- ---- the fresh search
  module _ (r : List ℕ) (ring : IsRing n r) where
    apart : (e : Edge) → edge_in e (edges n r) ≡ true → pt e.lo ≢ pt e.hi
    apart = ring_edge_apart n pt board r ring

    pub pair_found : (e f : Edge) → Pair n pt r e f → found n pt r e f ≡ true
    pair_found e f p =
        let a = edge_member n r e p.first in
        let b = edge_member n r f p.second in
        rw (a, b, p.in_order) ((meeting_is e f (apart e a) (apart f b)).1 p.meet)

    pub found_pair : (e f : Edge) → found n pt r e f ≡ true → Pair n pt r e f
    found_pair e f h =
        let a = and_left (edge_in e (edges n r)) _ h in
        let g = and_right (edge_in e (edges n r)) _ h in
        let b = and_left (edge_in f (edges n r)) _ g in
        let k = and_right (edge_in f (edges n r)) _ g in
        record { first = member_edge n r e a; second = member_edge n r f b; in_order = and_left (lt_edge e f) _ k; meet = (meeting_is e f (apart e a) (apart f b)).0 (and_right (lt_edge e f) _ k) }

    pub fresh_search : Search n pt r (fresh n pt r)
    fresh_search = record {
      each = λ e f p. fresh_counted n pt r (once_edges n r ring board.three) e f ∙ ap one (pair_found e f p);
      only = λ e f q. fresh_counted n pt r (once_edges n r ring board.three) e f ∙ both (true_or_false (found n pt r e f)) (λ t. absurd (q (found_pair e f t))) (λ t. ap one t);
    }

    -- ---- where it finds none
    module _ (none : fresh n pt r ≡ []) where
      not_found : (e f : Edge) → found n pt r e f ≡ false
      not_found e f =
          both (true_or_false (found n pt r e f))
          (λ t. absurd (omega (arith, fresh_search.each e f (found_pair e f t), ap (counted e f) none)))
          (λ t. t)

      in_order_apart : (e f : Edge) → edge_in e (edges n r) ≡ true → edge_in f (edges n r) ≡ true → lt_edge e f ≡ true → meet_edges pt e f ≡ false
      in_order_apart e f a b lt = let z : found n pt r e f ≡ false = not_found e f in rw (a, b, lt) at z

      none_meet : (e f : Edge) → IsEdge n r e → IsEdge n r f → e ≢ f → meet_edges pt e f ≡ false
      none_meet e f ie jf ne =
          let a = edge_member n r e ie in
          let b = edge_member n r f jf in
          both (true_or_false (lt_edge e f))
          (λ t. in_order_apart e f a b t)
          (λ t. meet_edges_comm pt f e (apart f b) (apart e a) ∙ in_order_apart f e b a (lt_edge_other e f (eq_edge_false e f ne) ∙ ap not t))

      corner : (m : ℕ) → Least n pt r m → Corner n pt r m
      corner m le = least n pt board.three board.distinct board.not_line r ring m le.within (λ i l ne. is_below _ _ (le.below i l ne)) none_meet

      pub loop_of : Loop n pt r (finish n pt r)
      loop_of =
          let three = board.three in
          let some : 0 < n = omega arith in
          let ap-art = ring_apart n pt r ring board.distinct in
          let l = finish_ring n pt r some ring ap-art in
          record {
            finished = finish_is n pt r some ring ap-art corner;
            ring = l;
            visits = λ v lv. (let (i, li, e) = ring_has l v lv in (i, li, e, λ j lj f. l.apart j i lj li (f ∙ sym e)));
            turns = finish_turn n pt r some ring ap-art corner;
            none = none_counted _ (λ a b. fresh_same n pt r (finish n pt r) (once_edges n r ring three) (once_edges n (finish n pt r) l three) (finish_edges n pt r some ring ap-art) a b ∙ ap (counted a b) none);
          }

  -- ---- every run from a state whose ring is one and whose record is exact
  module _ (was : Edge → Edge → Bool) (w : ℕ → State → ℕ) (picks : Picks w) (t₀ : Traced) (inv₀ : Inv n pt was t₀) (cs : List ℕ) where
    abbrev t : Traced
    t = run_word n pt w cs t₀

    inv : Inv n pt was t
    inv = run_inv n pt was board w picks cs t₀ inv₀

    search : Search n pt t.now.ring (fresh n pt t.now.ring)
    search = fresh_search t.now.ring inv.ring_ok

    times : (e f : Edge) (k : ℕ) (b : Bool) → counted e f (fresh n pt t.now.ring) ≡ k → doubled was e f t.log ≡ b → counted e f t.now.store.dense ≡ k * cond b 2 1
    times e f k b p q = inv.exact e f ∙ rw (p, q)

    empty : (t.now.store.dense ≡ []) ↔ (fresh n pt t.now.ring ≡ [])
    empty = none_left n pt was t inv

    pub onward : (k : ℕ) → Onward n pt was w cs t₀ k
    onward k = record {
      ring = inv.ring_ok;
      searched = search;
      names = record {
        each = λ e f p. both (true_or_false (doubled was e f t.log)) (λ h. inr (times e f 1 true (search.each e f p) h)) (λ h. inl (times e f 1 false (search.each e f p) h));
        only = λ e f q. inv.exact e f ∙ rw (search.only e f q) (omega arith);
      };
      twice = λ e f p h. times e f 1 true (search.each e f p) h;
      once = λ e f p h. times e f 1 false (search.each e f p) h;
      delivers = λ h. rw (eq-eqb (length t.now.store.dense) 0 (ap length (empty.1 h)));
      withholds = λ h. rw (ne_eqb (length t.now.store.dense) 0 (λ z. h (empty.0 (nil_from_length t.now.store.dense z))));
      loop = loop_of t.now.ring inv.ring_ok;
      longer = λ more h. ap (answer_from n pt k) (run_longer n pt w cs more t₀ (empty.1 h));
      moves = moves_from n pt w board picks was cs t₀ inv₀;
    }

  -- ---- the demand: the run from the start
  module _ (w : ℕ → State → ℕ) (picks : Picks w) (cs r : List ℕ) (ring : IsRing n r) where
    whole : Onward n pt nothing_twice w cs (begin n pt r) (length (start n pt r).dense)
    whole = onward nothing_twice w picks (begin n pt r) (begin_inv n pt r ring) cs (length (start n pt r).dense)

    pub demand3 : Demand3 n pt w cs r
    demand3 = record {
      searched = fresh_search r ring;
      searched_last = whole.searched;
      starts = record { each = λ e f p. start_is e f ∙ (fresh_search r ring).each e f p; only = λ e f q. start_is e f ∙ (fresh_search r ring).only e f q };
      twice = whole.twice;
      once = whole.once;
      only = whole.names.only;
      delivers = λ h. whole.delivers h ∙ ap (delivered (finish n pt (after n pt w cs r).now.ring) (length (after n pt w cs r).log)) (start_count_is n pt r);
      withholds = whole.withholds;
      loop = whole.loop;
      ring = whole.ring;
      longer = whole.longer;
      moves = move_count n pt w board picks cs r ring;
    }
      where
        -- the start counts what a fresh search counts
        start_is : (e f : Edge) → counted e f (start n pt r).dense ≡ counted e f (fresh n pt r)
        start_is e f = counted_is e f (start n pt r).dense ∙ start_count n pt r (λ x y. eq_edge e x && eq_edge f y) ∙ sym (counted_is e f (fresh n pt r))
