-- The record names exactly the pairs that meet: it does at the start, and every move keeps it.
use mathlib.Core.Path.{◌≡◌, refl, sym, ap, ◌∙◌}
use mathlib.Core.Bool.{Bool, true, false, not, ◌&&◌, ◌||◌, cond, true≢false, and-false}
use mathlib.Core.List.{List, [], ◌∷◌}
use Prim.Native.Nat.{ℕ, ◌+◌, ◌*◌, ◌<◌}
use native.Mathlib.Omega.{arith}
use borrow.Author.Tests.{eqb-false}
use lib.Dec.{eqb}
use lib.ListN.{length, get_or}
use Rattle.std.proofs.lemmas.Bool.{cond_both}
use Rattle.algebra.specs.Counting.{one, count_p, count_at}
use Rattle.geometry.specs.Plane.{Point}
use Rattle.index_edge.specs.Edge.{Edge, eq_edge, lt_edge, edge_in}
use Rattle.machine.specs.Machine.{State, Laid, Traced, doubled, nothing_twice, start, fresh, carry, plan_of, carried, step, run_word, begin}
use Rattle.polygon.specs.Change.{Plan, by_hoist, cut, lay, turned}
use Rattle.intersection_set.specs.Store.{removes, counted, no_rec}
use Rattle.polygon.specs.Edges.{edges}
use Rattle.machine.specs.Board.{meet_edges, Board}
use Rattle.polygon.specs.Ring.{IsRing}
use Rattle.machine.specs.Demand3.{Picks}
use Rattle.algebra.specs.Cases.{and_left, and_right, both, true_or_false}
use Rattle.index_edge.proofs.Edges.{eq_edge_refl, lt_edge_diff}
use Rattle.intersection_set.proofs.Records.{is_pair, counted_is, Once, counted_removes}
use Rattle.machine.proofs.GoodPlan.{GoodPlan, Recorded, once_edges, good_plan, plan_ring}
use Rattle.machine.proofs.Scans.{scans_counted, scans_not, start_count, found, fresh_counted}

-- ---- the arithmetic of one pair: K kept, L laid, m it meets, h by a hoist, sh the same hoist before
kept : (aE bE aC bC x : Bool) (k : ℕ) → cond (not (aC || bC)) (one (aE && (bE && x)) * k) 0 ≡ one ((aE && not aC) && ((bE && not bC) && x)) * k
kept true true true bC x k = omega arith
kept true true false true x k = omega arith
kept true true false false x k = refl
kept true false true bC x k = omega arith
kept true false false true x k = omega arith
kept true false false false x k = refl
kept false bE true bC x k = omega arith
kept false bE false true x k = omega arith
kept false bE false false x k = refl

core : (aL bL aK bK m m' h sh : Bool)
    → (aK && aL) ≡ false
    → (bK && bL) ≡ false
    → (h ≡ false → aL ≡ true → bL ≡ true → m ≡ false)
    → ((aK || aL) ≡ true → (bK || bL) ≡ true → m' ≡ m)
    → one (aK && (bK && m)) * cond sh 2 1 + (one (bL && ((aK || aL) && m)) + one (aL && ((bK || bL) && m')))
    ≡ one ((aK || aL) && ((bK || bL) && m)) * cond (cond (aL || bL) (h && (aL && bL)) sh) 2 1
core true true true bK m m' h sh p q u v = absurd (true≢false p)
core true true false true m m' h sh p q u v = absurd (true≢false q)
core true true false false m m' true sh p q u v = omega (arith, ap one (v refl refl))
core true true false false m m' false sh p q u v = omega (arith, ap one (v refl refl), ap one (u refl refl refl))
core true false true bK m m' h sh p q u v = absurd (true≢false p)
core true false false true m m' true sh p q u v = omega (arith, ap one (v refl refl))
core true false false true m m' false sh p q u v = omega (arith, ap one (v refl refl))
core true false false false m m' true sh p q u v = omega arith
core true false false false m m' false sh p q u v = omega arith
core false true aK true m m' h sh p q u v = absurd (true≢false q)
core false true true false m m' true sh p q u v = omega arith
core false true true false m m' false sh p q u v = omega arith
core false true false false m m' true sh p q u v = omega arith
core false true false false m m' false sh p q u v = omega arith
core false false true true m m' h sh p q u v = omega arith
core false false true false m m' h sh p q u v = omega arith
core false false false bK m m' h sh p q u v = omega arith

-- x records of the pair after the move, y after the removals, z before it
one_pair : (x y z : ℕ) (aE bE aC bC aL bL aE' bE' t m m' h sh : Bool)
    → x ≡ y + (one (bL && (aE' && m)) + one (aL && (bE' && m')))
    → y ≡ cond (not (aC || bC)) z 0
    → z ≡ one (aE && (bE && (t && m))) * cond sh 2 1
    → t ≡ true
    → aE' ≡ ((aE && not aC) || aL)
    → bE' ≡ ((bE && not bC) || bL)
    → ((aE && not aC) && aL) ≡ false
    → ((bE && not bC) && bL) ≡ false
    → (h ≡ false → aL ≡ true → bL ≡ true → m ≡ false)
    → (aE' ≡ true → bE' ≡ true → m' ≡ m)
    → x ≡ one (aE' && (bE' && (t && m))) * cond (cond (aL || bL) (h && (aL && bL)) sh) 2 1
one_pair x y z aE bE aC bC aL bL aE' bE' t m m' h sh px py pz pt pa pb na nb ap-art same =
    let aK : Bool = aE && not aC in
    let bK : Bool = bE && not bC in
    let c : one (aK && (bK && m)) * cond sh 2 1 + (one (bL && ((aK || aL) && m)) + one (aL && ((bK || bL) && m'))) ≡ one ((aK || aL) && ((bK || bL) && m)) * cond (cond (aL || bL) (h && (aL && bL)) sh) 2 1
    = core aL bL aK bK m m' h sh na nb ap-art (λ u v. same (pa ∙ u) (pb ∙ v)) in
    let px' : x ≡ y + (one (bL && ((aK || aL) && m)) + one (aL && ((bK || bL) && m'))) = rw (pa, pb) at px in
    let pz' : z ≡ one (aE && (bE && m)) * cond sh 2 1 = rw pt at pz in
    let py' : y ≡ one (aK && (bK && m)) * cond sh 2 1 = py ∙ ap (λ (u : ℕ). cond (not (aC || bC)) u 0) pz' ∙ kept aE bE aC bC m (cond sh 2 1) in
    rw (pa, pb, pt) (px' ∙ ap (λ (u : ℕ). u + (one (bL && ((aK || aL) && m)) + one (aL && ((bK || bL) && m')))) py' ∙ c)

out_of_order : (aE bE t m : Bool) → t ≡ false → one (aE && (bE && (t && m))) ≡ 0
out_of_order aE bE t m h = rw (h, and-false bE, and-false aE)

zero_times : (x k : ℕ) → x ≡ 0 → x * k ≡ 0
zero_times x k h = rw h (omega arith)

module _ (n : ℕ) (pt : ℕ → Point) (was : Edge → Edge → Bool) where
  -- the words of demand 3, of a state and a log; `was` says which pairs were named twice before the moves of the log
  abbrev pub Exact : State → List Laid → Type 0
  Exact s g = (a b : Edge) → counted a b s.store.dense ≡ counted a b (fresh n pt s.ring) * cond (doubled was a b g) 2 1

  module _ (m : Plan) (s : State) (g : List Laid) (ok : GoodPlan n pt s.ring m) (ex : Exact s g) where
    move_lt : (a b : Edge) → lt_edge a b ≡ true
        → counted a b (carry n pt m s).store.dense ≡ one (found n pt (turned n m s.ring) a b) * cond (doubled was a b (record { hoisted = by_hoist m; news = lay n m s.ring } ∷ g)) 2 1
    move_lt a b lt =
        let r : List ℕ = s.ring in
        let C : List Edge = cut n m r in
        let L : List Edge = lay n m r in
        one_pair _ (counted a b (removes C s.store).dense) (counted a b s.store.dense) (edge_in a (edges n r)) (edge_in b (edges n r)) (edge_in a C) (edge_in b C) (edge_in a L) (edge_in b L) (edge_in a (edges n (turned n m r))) (edge_in b (edges n (turned n m r))) (lt_edge a b) (meet_edges pt a b) (meet_edges pt b a) (by_hoist m) (doubled was a b g)
        (scans_counted pt a b lt (edges n (turned n m r)) L (removes C s.store) ok.once_after ok.once_lay)
        (counted_removes a b C s.store)
        (ex a b ∙ ap (λ (u : ℕ). u * cond (doubled was a b g) 2 1) (fresh_counted n pt r ok.once a b))
        lt
        (ok.after a)
        (ok.after b)
        (ok.new a)
        (ok.new b)
        (λ h u v. ok.apart h a b u v (lt_edge_diff a b lt))
        (λ u v. ok.meet_sym b a v u)

    move_not : (a b : Edge) → lt_edge a b ≡ false → counted a b (carry n pt m s).store.dense ≡ 0
    move_not a b h =
        let r : List ℕ = s.ring in
        let C : List Edge = cut n m r in
        let z : one (found n pt r a b) ≡ 0 = out_of_order (edge_in a (edges n r)) (edge_in b (edges n r)) (lt_edge a b) (meet_edges pt a b) h in
        let y : counted a b s.store.dense ≡ 0 = ex a b ∙ zero_times _ _ (fresh_counted n pt r ok.once a b ∙ z) in
        counted_is a b (carry n pt m s).store.dense
        ∙ scans_not pt a b h (edges n (turned n m r)) (lay n m r) (removes C s.store)
        ∙ sym (counted_is a b (removes C s.store).dense)
        ∙ counted_removes a b C s.store
        ∙ rw y (cond_both (not (edge_in a C || edge_in b C)) 0 0 (λ x. x ≡ 0) (λ _. refl) (λ _. refl))

    pub carry_exact : Exact (carry n pt m s) (record { hoisted = by_hoist m; news = lay n m s.ring } ∷ g)
    carry_exact a b =
        rw (fresh_counted n pt (turned n m s.ring) ok.once_after a b)
        (both (true_or_false (lt_edge a b)) (move_lt a b)
        (λ h.
        move_not a b h
        ∙ sym
        (zero_times _ _ (out_of_order (edge_in a (edges n (turned n m s.ring))) (edge_in b (edges n (turned n m s.ring))) (lt_edge a b) (meet_edges pt a b) h))))

  -- ---- what is recorded
  recorded_of : (r : List ℕ) (a b : Edge) → found n pt r a b ≡ true → Recorded n pt r a b
  recorded_of r a b h =
      let x : Bool = edge_in a (edges n r) in
      let y : Bool = edge_in b (edges n r) in
      let h₁ : (y && (lt_edge a b && meet_edges pt a b)) ≡ true = and_right x _ h in
      let h₂ : (lt_edge a b && meet_edges pt a b) ≡ true = and_right y _ h₁ in
      record { first = and_left x _ h; second = and_left y _ h₁; in_order = and_left (lt_edge a b) _ h₂; meeting = and_right (lt_edge a b) _ h₂ }

  -- every record is a pair in order of meeting edges of the ring
  pub recorded : (s : State) (g : List Laid) → Once (edges n s.ring) → Exact s g → (k : ℕ) → k < length s.store.dense → Recorded n pt s.ring (get_or s.store.dense k no_rec).e0 (get_or s.store.dense k no_rec).e1
  recorded s g o ex k h =
      recorded_of s.ring a b
      (both (true_or_false (found n pt s.ring a b)) (λ p. p)
      (λ p.
      let z : counted a b s.store.dense ≡ 0 = ex a b ∙ zero_times _ _ (fresh_counted n pt s.ring o a b ∙ ap one p) in
      let z' : count_p (is_pair a b) s.store.dense ≡ 0 = sym (counted_is a b s.store.dense) ∙ z in
      absurd (omega (arith, z', count_at (is_pair a b) s.store.dense k no_rec h (rw (eq_edge_refl a, eq_edge_refl b))))))
    where
      a : Edge
      a = (get_or s.store.dense k no_rec).e0

      b : Edge
      b = (get_or s.store.dense k no_rec).e1

  -- ---- a ring whose record is exact, at the start and after every pick
  pub record Inv (t : Traced) : Type 0 where
    pub ring_ok : IsRing n t.now.ring
    pub exact : Exact t.now t.log

  module _ (board : Board n pt) where
    module _ (w : ℕ → State → ℕ) (picks : Picks w) where
      pub step_inv : (c : ℕ) (t : Traced) → Inv t → Inv (step n pt w c t)
      step_inv c t i = go (eqb (length t.now.store.dense) 0) refl
        where
          go : (b : Bool) → eqb (length t.now.store.dense) 0 ≡ b → Inv (cond b t (carried n pt (plan_of n pt t.now (w c t.now)) t))
          go true h = i
          go false h =
              let s : State = t.now in
              let k : ℕ = w c s in
              let z : k < length s.store.dense = picks c s (omega (arith, eqb-false (length s.store.dense) 0 h)) in
              let q : Recorded n pt s.ring (get_or s.store.dense k no_rec).e0 (get_or s.store.dense k no_rec).e1 = recorded s t.log (once_edges n s.ring i.ring_ok board.three) i.exact k z in
              record {
                ring_ok = plan_ring n pt board s.ring i.ring_ok _ _ q;
                exact = carry_exact (plan_of n pt s k) s t.log (good_plan n pt board s.ring i.ring_ok _ _ q) i.exact;
              }

      pub run_inv : (cs : List ℕ) (t : Traced) → Inv t → Inv (run_word n pt w cs t)
      run_inv [] t i = i
      run_inv (c ∷ cs) t i = run_inv cs (step n pt w c t) (step_inv c t i)

-- ---- the start
module _ (n : ℕ) (pt : ℕ → Point) where
  pub start_exact : (r : List ℕ) → Exact n pt nothing_twice (begin n pt r).now []
  start_exact r a b =
      (counted_is a b (start n pt r).dense ∙ start_count n pt r (λ x y. eq_edge a x && eq_edge b y) ∙ sym (counted_is a b (fresh n pt r)) ∙ omega arith)

  pub begin_inv : (r : List ℕ) → IsRing n r → Inv n pt nothing_twice (begin n pt r)
  begin_inv r p = record { ring_ok = p; exact = start_exact r }
