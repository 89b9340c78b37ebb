-- The machine over two boards whose points are alike: all that it does is made of the tests, so it does the same.
use Rattle.std.specs.Prelude.{◌≡◌, refl, Bool, true, false, not, ◌&&◌, cond, List, [], ◌∷◌, ◌++◌, ℕ, zero, suc, ◌-◌, ◌≤◌, ◌<◌, pos, eqb, ltb, length, get_or}
use Rattle.std.specs.Int.Signed.{lt_z}
use Rattle.std.proofs.Common.{sym, ◌∙◌, ap, arith, eqb-true}
use Rattle.algebra.specs.Cases.{both, true_or_false}
use Rattle.algebra.specs.Ranges.{all_below}
use Rattle.geometry.specs.Plane.{Point, turn, is_zero, eq_point, lt_point, collinear}
use Rattle.geometry.proofs.Points.{eq_point_same, lt_point_irrefl, turn_first}
use Rattle.index_edge.specs.Edge.{Edge, eq_edge, lt_edge}
use Rattle.polygon.specs.Ring.{next, prev, dist, stretch, at, each_once, turned_round}
use Rattle.polygon.specs.Edges.{edges, direct}
use Rattle.polygon.specs.Change.{Plan, uncross, by_hoist, cut, lay, turned}
use Rattle.polygon.proofs.EachOnce.{each_ring}
use Rattle.intersection_set.specs.Store.{Store, empty, push, removes, no_rec}
use Rattle.machine.specs.Board.{pt_at, meet_edges, is_straight_line, kink_at}
use Rattle.machine.specs.Search.{merge, or_else, plan_for, run_back, run_on, kink_in, first_kink, search_edges, kink_and_edge, plan_at}
use Rattle.machine.specs.Machine.{State, Traced, scan_over, scans, pairs_with, pairs, fresh_with, fresh_over, fresh, start, begin, plan_of, carried, step, run_word, after, place}
use Rattle.machine.specs.Answer.{refused, unfinished, delivered, too_many, least_to, clockwise, finish, answer_from, answer, in_range, none_alike, refusal, call}
use Rattle.machine.proofs.Accepted.{accepted}
use Rattle.machine.proofs.EdgesMeet.{meet_edges_is}
use Rattle.alike.specs.Same.{SameTests, SameRuns}
use Rattle.alike.proofs.Tests.{Alike, inside_alike, parallel_alike, meets_alike}
use Rattle.alike.proofs.Numbers.{Below, turned_below, ring_below, Ends, AllEnds, edges_ends, lay_ends, step_below, run_below}

pub all_same : (k : ℕ) (p q : ℕ → Bool) → ((i : ℕ) → i < k → p i ≡ q i) → all_below k p ≡ all_below k q
all_same zero p q h = refl
all_same (suc k) p q h = λ i. all_same k p q (λ j l. h j (omega arith)) i && h k (omega arith) i

-- ---- the vertices and the edges of two runs, by their corners
abbrev vertices : ℕ → ℕ → ℕ → ℕ → ℕ → List ℕ
vertices n a₀ a₁ b₀ b₁ = stretch n a₀ (suc (dist n a₀ a₁)) ++ stretch n b₀ (suc (dist n b₀ b₁))

abbrev sides : ℕ → ℕ → ℕ → ℕ → ℕ → List ℕ
sides n a₀ a₁ b₀ b₁ = stretch n a₀ (dist n a₀ a₁) ++ stretch n b₀ (dist n b₀ b₁)

-- ---- checks 4 to 7
abbrev late : Bool → Bool → Bool → Bool → ℕ
late ring alike few line = cond (not ring) 4 (cond (not alike) 5 (cond few 6 (cond line 7 0)))

-- ---- two boards, alike below k
module _ (R : Point → Point → Type 0) (al : Alike R) (n k : ℕ) (pt qt : ℕ → Point) (some : 0 < k) (within : n ≤ k) (same : (i : ℕ) → i < k → R (pt i) (qt i)) where
  -- ---- the store
  meet_same : (e f : Edge) → Ends k e → Ends k f → meet_edges qt e f ≡ meet_edges pt e f
  meet_same e f he hf =
      meet_edges_is qt e f ∙ meets_alike R al (same e.lo he.0) (same e.hi he.1) (same f.lo hf.0) (same f.hi hf.1) ∙ sym (meet_edges_is pt e f)

  scan_over_same : (e : Edge) → Ends k e → (l : List Edge) → AllEnds k l → (s : Store) → scan_over qt e l s ≡ scan_over pt e l s
  scan_over_same e he [] h s = refl
  scan_over_same e he (f ∷ l) h s =
      scan_over_same e he l h.1 _ ∙ ap (λ (t : Bool). scan_over pt e l (cond (not (eq_edge f e) && t) (push f e s) s)) (meet_same f e h.0 he)

  scans_same : (all : List Edge) → AllEnds k all → (l : List Edge) → AllEnds k l → (s : Store) → scans qt all l s ≡ scans pt all l s
  scans_same all ha [] h s = refl
  scans_same all ha (e ∷ l) h s = scans_same all ha l h.1 (scan_over qt e all s) ∙ ap (scans pt all l) (scan_over_same e h.0 all ha s)

  pairs_with_same : (e : Edge) → Ends k e → (l : List Edge) → AllEnds k l → (s : Store) → pairs_with qt e l s ≡ pairs_with pt e l s
  pairs_with_same e he [] h s = refl
  pairs_with_same e he (f ∷ l) h s =
      pairs_with_same e he l h.1 _ ∙ ap (λ (t : Bool). pairs_with pt e l (cond (lt_edge e f && t) (push e f s) s)) (meet_same e f he h.0)

  pairs_same : (all : List Edge) → AllEnds k all → (l : List Edge) → AllEnds k l → (s : Store) → pairs qt all l s ≡ pairs pt all l s
  pairs_same all ha [] h s = refl
  pairs_same all ha (e ∷ l) h s = pairs_same all ha l h.1 (pairs_with qt e all s) ∙ ap (pairs pt all l) (pairs_with_same e h.0 all ha s)

  fresh_with_same : (e : Edge) → Ends k e → (l : List Edge) → AllEnds k l → fresh_with qt e l ≡ fresh_with pt e l
  fresh_with_same e he [] h = refl
  fresh_with_same e he (f ∷ l) h =
      λ i. cond (lt_edge e f && meet_same e f he h.0 i) (record { e0 = e; e1 = f; age = 0; slot = 0 } ∷ fresh_with_same e he l h.1 i) (fresh_with_same e he l h.1 i)

  fresh_over_same : (all : List Edge) → AllEnds k all → (l : List Edge) → AllEnds k l → fresh_over qt all l ≡ fresh_over pt all l
  fresh_over_same all ha [] h = refl
  fresh_over_same all ha (e ∷ l) h = λ i. fresh_with_same e h.0 all ha i ++ fresh_over_same all ha l h.1 i

  -- ---- the ring
  module _ (r : List ℕ) (b : Below k r) where
    at_same : (i : ℕ) → R (pt_at pt r i) (pt_at qt r i)
    at_same i = same (at r i) (b i)

    straight_same : (i : ℕ) → is_straight_line n qt r i ≡ is_straight_line n pt r i
    straight_same i = al.line (at_same (prev n i)) (at_same i) (at_same (next n i))

    kink_same : (i : ℕ) → kink_at n qt r i ≡ kink_at n pt r i
    kink_same i = ap not (inside_alike R al (at_same (prev n i)) (at_same (next n i)) (at_same i))

    kink_in_same : (h p : ℕ) → kink_in n qt r h p ≡ kink_in n pt r h p
    kink_in_same h p = λ i. kink_same h i && inside_alike R al (at_same p) (at_same (next n p)) (at_same h) i

    run_back_same : (j i : ℕ) → run_back n qt j r i ≡ run_back n pt j r i
    run_back_same zero i = refl
    run_back_same (suc j) i = λ x. cond (straight_same i x) (run_back_same j (prev n i) x) i

    run_on_same : (j i : ℕ) → run_on n qt j r i ≡ run_on n pt j r i
    run_on_same zero i = refl
    run_on_same (suc j) i = λ x. cond (straight_same i x) (run_on_same j (next n i) x) i

    first_kink_same : (p : ℕ) (hs : List ℕ) → first_kink n qt r p hs ≡ first_kink n pt r p hs
    first_kink_same p [] = refl
    first_kink_same p (h ∷ hs) = λ x. cond (kink_in_same h p x) (merge h p) (first_kink_same p hs x)

    search_edges_same : (hs ps : List ℕ) → search_edges n qt r hs ps ≡ search_edges n pt r hs ps
    search_edges_same hs [] = refl
    search_edges_same hs (p ∷ ps) = λ x. or_else (first_kink_same p hs x) (search_edges_same hs ps x)

    -- the search over the vertices and the edges of two runs
    kink_and_edge_same : (i j : ℕ) → kink_and_edge n qt r i j ≡ kink_and_edge n pt r i j
    kink_and_edge_same i j =
        search_edges_same
        (vertices n (run_back n qt n r i) (run_on n qt n r (next n i)) (run_back n qt n r j) (run_on n qt n r (next n j)))
        (sides n (run_back n qt n r i) (run_on n qt n r (next n i)) (run_back n qt n r j) (run_on n qt n r (next n j)))
        ∙ (λ x.
        search_edges n pt r (vertices n (run_back_same n i x) (run_on_same n (next n i) x) (run_back_same n j x) (run_on_same n (next n j) x))
        (sides n (run_back_same n i x) (run_on_same n (next n i) x) (run_back_same n j x) (run_on_same n (next n j) x)))

    plan_at_same : (i j : ℕ) → plan_at n qt r i j ≡ plan_at n pt r i j
    plan_at_same i j =
        λ x. cond (parallel_alike R al (at_same i) (at_same (next n i)) (at_same j) (at_same (next n j)) x) (plan_for (kink_and_edge_same i j x)) (uncross i j)

    start_same : start n qt r ≡ start n pt r
    start_same = pairs_same (edges n r) (edges_ends n k r b) (edges n r) (edges_ends n k r b) empty

    fresh_same : fresh n qt r ≡ fresh n pt r
    fresh_same = fresh_over_same (edges n r) (edges_ends n k r b) (edges n r) (edges_ends n k r b)

    least_same : (j : ℕ) → least_to n qt r j ≡ least_to n pt r j
    least_same zero = refl
    least_same (suc j) =
        ap (λ (l : ℕ). cond (lt_point (pt_at qt r (suc j)) (pt_at qt r l)) (suc j) l) (least_same j)
        ∙ ap (λ (t : Bool). cond t (suc j) (least_to n pt r j)) (al.order (at_same (suc j)) (at_same (least_to n pt r j)))

    clockwise_same : clockwise n qt r ≡ clockwise n pt r
    clockwise_same =
        let m = least_to n pt r (n - 1) in
        ap (λ (j : ℕ). lt_z (turn (pt_at qt r (prev n j)) (pt_at qt r j) (pt_at qt r (next n j))) (pos 0)) (least_same (n - 1))
        ∙ al.right (at_same (prev n m)) (at_same m) (at_same (next n m))

    finish_same : finish n qt r ≡ finish n pt r
    finish_same = ap (λ (t : Bool). cond t (turned_round n r) r) clockwise_same

  -- ---- the run
  plan_of_same : (s : State) → Below k s.ring → (j : ℕ) → plan_of n qt s j ≡ plan_of n pt s j
  plan_of_same s b j = plan_at_same s.ring b (direct n s.ring (get_or s.store.dense j no_rec).e0) (direct n s.ring (get_or s.store.dense j no_rec).e1)

  carried_same : (m : Plan) (t : Traced) → Below k t.now.ring → carried n qt m t ≡ carried n pt m t
  carried_same m t b =
      let r : List ℕ = turned n m t.now.ring in
      let all = edges_ends n k r (turned_below n k m t.now.ring b) in
      let new = lay_ends n k m t.now.ring b in
      λ i. record {
        now = record { ring = r; store = scans_same (edges n r) all (lay n m t.now.ring) new (removes (cut n m t.now.ring) t.now.store) i };
        log = record { hoisted = by_hoist m; news = lay n m t.now.ring } ∷ t.log;
      }

  module _ (w : ℕ → State → ℕ) where
    step_same : (c : ℕ) (t : Traced) → Below k t.now.ring → step n qt w c t ≡ step n pt w c t
    step_same c t b =
        ap (λ (u : Traced). cond (eqb (length t.now.store.dense) 0) t u)
        (carried_same (plan_of n qt t.now (w c t.now)) t b ∙ ap (λ (m : Plan). carried n pt m t) (plan_of_same t.now b (w c t.now)))

    run_same : (cs : List ℕ) (t : Traced) → Below k t.now.ring → run_word n qt w cs t ≡ run_word n pt w cs t
    run_same [] t b = refl
    run_same (c ∷ cs) t b = ap (run_word n qt w cs) (step_same c t b) ∙ run_same cs (step n pt w c t) (step_below n k pt w c t b)

    after_same : (r : List ℕ) → Below k r → (cs : List ℕ) → after n qt w cs r ≡ after n pt w cs r
    after_same r b cs =
        ap (λ (s : Store). run_word n qt w cs (record { now = record { ring = r; store = s }; log = [] })) (start_same r b) ∙ run_same cs (begin n pt r) b

  -- ---- the answer
  answer_from_same : (j : ℕ) (t : Traced) → Below k t.now.ring → answer_from n qt j t ≡ answer_from n pt j t
  answer_from_same j t b =
      λ i.
      cond (eqb (length t.now.store.dense) 0)
      (delivered (finish_same t.now.ring b i) (length t.log) j)
      (unfinished t.now.ring (length t.log) (length t.now.store.dense))

  answer_same : (r : List ℕ) → Below k r → (t : Traced) → Below k t.now.ring → answer n qt r t ≡ answer n pt r t
  answer_same r b t bt = answer_from_same (length (start n qt r).dense) t bt ∙ ap (λ (s : Store). answer_from n pt (length s.dense) t) (start_same r b)

  none_same : none_alike n qt ≡ none_alike n pt
  none_same = all_same n _ _ (λ i l. all_same i _ _ (λ j h. ap not (al.equal (same j (omega (arith, within))) (same i (omega (arith, within))))))

  module _ (range : in_range n qt ≡ in_range n pt) where
    -- where check 4 refuses, the ring's points are not looked at
    line_same : (r : List ℕ) → each_once n r ≡ true → all_below n (is_straight_line n qt r) ≡ all_below n (is_straight_line n pt r)
    line_same r e = all_same n _ _ (λ i l. straight_same r (ring_below n k r some within (each_ring n r e)) i)

    last_check : (r : List ℕ) (t : Bool) → each_once n r ≡ t → (x few : Bool)
        → late t x few (all_below n (is_straight_line n qt r)) ≡ late t x few (all_below n (is_straight_line n pt r))
    last_check r false e x few = refl
    last_check r true e x few = ap (late true x few) (line_same r e)

    refusal_same : (short many : Bool) (r : List ℕ) → refusal n qt short many r ≡ refusal n pt short many r
    refusal_same short many r =
        (λ i. early (range i) (late (each_once n r) (none_same i) (ltb n 3) (all_below n (is_straight_line n qt r))))
        ∙ ap (early (in_range n pt)) (last_check r (each_once n r) refl (none_alike n pt) (ltb n 3))
      where
        early : Bool → ℕ → ℕ
        early near rest = cond (ltb 256 n) 1 (cond short 2 (cond many 19 (cond (not near) 3 rest)))

    call_same : (short : Bool) (r cs : List ℕ) → call n qt short r cs ≡ call n pt short r cs
    call_same short r cs =
        ap (λ (j : ℕ). cond (eqb j 0) (answer n qt r (after n qt place cs r)) (refused j)) (refusal_same short (too_many cs) r)
        ∙ go (eqb (refusal n pt short (too_many cs) r) 0) refl
      where
        go : (e : Bool) → eqb (refusal n pt short (too_many cs) r) 0 ≡ e
            → cond e (answer n qt r (after n qt place cs r)) (refused (refusal n pt short (too_many cs) r))
            ≡ cond e (answer n pt r (after n pt place cs r)) (refused (refusal n pt short (too_many cs) r))
        go false h = refl
        go true h =
            let a = (accepted n pt short (too_many cs) r).0 (eqb-true (refusal n pt short (too_many cs) r) 0 h) in
            let b = ring_below n k r some within a.ring in
            ap (answer n qt r) (after_same place r b cs) ∙ answer_same r b (after n pt place cs r) (run_below n k pt place cs (begin n pt r) b)

    runs_alike : SameRuns n pt qt
    runs_alike = record {
      calls = call_same;
      refusals = refusal_same;
      states = λ w r cs ring. after_same w r (ring_below n k r some within ring) cs;
      runs = λ w cs t ring. run_same w cs t (ring_below n k t.now.ring some within ring);
      answers = λ w cs t j ring. answers w cs t j (ring_below n k t.now.ring some within ring);
      searches = λ r ring. fresh_same r (ring_below n k r some within ring);
      loops = λ r ring. finish_same r (ring_below n k r some within ring);
    }
      where
        answers : (w : ℕ → State → ℕ) (cs : List ℕ) (t : Traced) (j : ℕ) → Below k t.now.ring
            → answer_from n qt j (run_word n qt w cs t) ≡ answer_from n pt j (run_word n pt w cs t)
        answers w cs t j b = ap (answer_from n qt j) (run_same w cs t b) ∙ answer_from_same j (run_word n pt w cs t) (run_below n k pt w cs t b)

-- ---- any two points are alike, each in all places
module _ (p q : Point) where
  abbrev Only : Point → Point → Type 0
  Only a b = (p ≡ a) × (q ≡ b)

  never_before : (a : Point) → lt_point a a ≡ false
  never_before a = both (true_or_false (lt_point a a)) (λ t. absurd (lt_point_irrefl a t)) (λ f. f)

  only_alike : Alike Only
  only_alike = record {
    order = λ ra rb. sym (λ i. lt_point (ra.1 i) (rb.1 i)) ∙ never_before q ∙ sym (never_before p) ∙ (λ i. lt_point (ra.0 i) (rb.0 i));
    equal = λ ra rb. sym (λ i. eq_point (ra.1 i) (rb.1 i)) ∙ eq_point_same q q refl ∙ sym (eq_point_same p p refl) ∙ (λ i. eq_point (ra.0 i) (rb.0 i));
    left = λ ra rb rc. sym (λ i. lt_z (pos 0) (turn (ra.1 i) (rb.1 i) (rc.1 i))) ∙ ap (lt_z (pos 0)) (turn_first q q ∙ sym (turn_first p p))
        ∙ (λ i. lt_z (pos 0) (turn (ra.0 i) (rb.0 i) (rc.0 i)));
    right = λ ra rb rc. sym (λ i. lt_z (turn (ra.1 i) (rb.1 i) (rc.1 i)) (pos 0)) ∙ ap (λ z. lt_z z (pos 0)) (turn_first q q ∙ sym (turn_first p p))
        ∙ (λ i. lt_z (turn (ra.0 i) (rb.0 i) (rc.0 i)) (pos 0));
    line = λ ra rb rc. sym (λ i. collinear (ra.1 i) (rb.1 i) (rc.1 i)) ∙ ap is_zero (turn_first q q ∙ sym (turn_first p p))
        ∙ (λ i. collinear (ra.0 i) (rb.0 i) (rc.0 i));
  }

-- The general law: boards of alike points, both or neither within the limits, have the same runs.
pub same_runs : (R : Point → Point → Type 0) → Alike R → (n : ℕ) (pt qt : ℕ → Point) → ((i : ℕ) → i < n → R (pt i) (qt i)) → in_range n qt ≡ in_range n pt
    → SameRuns n pt qt
same_runs R al zero pt qt same range =
    runs_alike (Only (pt 0) (qt 0)) (only_alike (pt 0) (qt 0)) 0 1 pt qt (omega arith) (omega arith) (λ i l. (ap pt (omega arith), ap qt (omega arith))) range
same_runs R al (suc n) pt qt same range = runs_alike R al (suc n) (suc n) pt qt (omega arith) (omega arith) same range

-- So for two boards on which all tests agree.
module _ (n : ℕ) (pt qt : ℕ → Point) (t : SameTests n pt qt) where
  -- points with the same number
  abbrev Twins : Point → Point → Type 0
  Twins a b = (x : ℕ) × (x < n) × (a ≡ pt x) × (b ≡ qt x)

  twins_alike : Alike Twins
  twins_alike = record {
    order = λ ra rb. (λ i. lt_point (ra.3 i) (rb.3 i)) ∙ t.order ra.0 rb.0 ra.1 rb.1 ∙ sym (λ i. lt_point (ra.2 i) (rb.2 i));
    equal = λ ra rb. (λ i. eq_point (ra.3 i) (rb.3 i)) ∙ t.equal ra.0 rb.0 ra.1 rb.1 ∙ sym (λ i. eq_point (ra.2 i) (rb.2 i));
    left = λ ra rb rc. (λ i. lt_z (pos 0) (turn (ra.3 i) (rb.3 i) (rc.3 i))) ∙ t.left ra.0 rb.0 rc.0 ra.1 rb.1 rc.1
        ∙ sym (λ i. lt_z (pos 0) (turn (ra.2 i) (rb.2 i) (rc.2 i)));
    right = λ ra rb rc. (λ i. lt_z (turn (ra.3 i) (rb.3 i) (rc.3 i)) (pos 0)) ∙ t.right ra.0 rb.0 rc.0 ra.1 rb.1 rc.1
        ∙ sym (λ i. lt_z (turn (ra.2 i) (rb.2 i) (rc.2 i)) (pos 0));
    line = λ ra rb rc. (λ i. collinear (ra.3 i) (rb.3 i) (rc.3 i)) ∙ t.line ra.0 rb.0 rc.0 ra.1 rb.1 rc.1 ∙ sym (λ i. collinear (ra.2 i) (rb.2 i) (rc.2 i));
  }

  pub tests_same : in_range n qt ≡ in_range n pt → SameRuns n pt qt
  tests_same = same_runs Twins twins_alike n pt qt (λ i l. (i, l, refl, refl))
