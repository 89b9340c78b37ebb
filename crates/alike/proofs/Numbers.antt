-- The point numbers of a ring are below n at every position, past its end too, and stay so; and those of its edges. Here they are below k, where n is at most k and
-- k is not 0: so the ring of no points, which names point 0 at every position, is no case of its own.
use Rattle.std.specs.Prelude.{◌≡◌, refl, Bool, true, false, cond, List, [], ◌∷◌, map, ℕ, zero, suc, ◌≤◌, ◌<◌, eqb, ltb, length}
use Rattle.std.proofs.Common.{arith, eqb-true}
use Rattle.algebra.specs.Cases.{both, le_cases}
use Rattle.algebra.specs.Ranges.{up_from}
use Rattle.geometry.specs.Plane.{Point}
use Rattle.index_edge.specs.Edge.{Edge, edge}
use Rattle.polygon.specs.Ring.{next, prev, at, IsRing, turned_round}
use Rattle.polygon.specs.Edges.{edge_at, edges}
use Rattle.polygon.specs.Change.{Plan, stay, uncross, hoist, lay, turned}
use Rattle.machine.specs.Machine.{State, Traced, start, begin, plan_of, carried, step, run_word, after, place}
use Rattle.machine.specs.Answer.{Answer, refused, unfinished, delivered, too_many, clockwise, finish, answer_from, answer, refusal, call}
use Rattle.machine.proofs.Accepted.{accepted}

-- ---- the ring
abbrev pub Below : ℕ → List ℕ → Type 0
Below k r = (i : ℕ) → at r i < k

map_below : (k : ℕ) (g : ℕ → ℕ) → 0 < k → ((j : ℕ) → g j < k) → (l : List ℕ) → Below k (map g l)
map_below k g some h [] i = some
map_below k g some h (x ∷ l) zero = h x
map_below k g some h (x ∷ l) (suc i) = map_below k g some h l i

pub turned_below : (n k : ℕ) (m : Plan) (r : List ℕ) → Below k r → Below k (turned n m r)
turned_below n k stay r b = b
turned_below n k (uncross p q) r b = map_below k _ (omega (arith, b 0)) (λ j. b _) (up_from 0 n)
turned_below n k (hoist h p) r b = map_below k _ (omega (arith, b 0)) (λ j. b _) (up_from 0 n)

pub ring_below : (n k : ℕ) (r : List ℕ) → 0 < k → n ≤ k → IsRing n r → Below k r
ring_below n k r some within ring i =
    both (le_cases (suc i) n) (λ h. omega (arith, ring.below i h.0)) (λ h. past r i (omega (arith, ring.len, h.0)))
  where
    past : (l : List ℕ) (i : ℕ) → length l ≤ i → at l i < k
    past [] i h = some
    past (a ∷ l) zero h = absurd (omega arith)
    past (a ∷ l) (suc i) h = past l i (omega arith)

-- ---- edges of points below k
abbrev pub Ends : ℕ → Edge → Type 0
Ends k e = (e.lo < k) × (e.hi < k)

abbrev pub AllEnds : ℕ → List Edge → Type 0
AllEnds k [] = Unit {0}
AllEnds k (e ∷ l) = Ends k e × AllEnds k l

edge_ends : (k a b : ℕ) → a < k → b < k → Ends k (edge a b)
edge_ends k a b la lb = go (ltb a b)
  where
    go : (t : Bool) → Ends k (cond t (record { lo = a; hi = b }) (record { lo = b; hi = a }))
    go true = (la, lb)
    go false = (lb, la)

map_ends : (k : ℕ) (g : ℕ → Edge) → ((j : ℕ) → Ends k (g j)) → (l : List ℕ) → AllEnds k (map g l)
map_ends k g h [] = tt
map_ends k g h (x ∷ l) = (h x, map_ends k g h l)

pub edges_ends : (n k : ℕ) (r : List ℕ) → Below k r → AllEnds k (edges n r)
edges_ends n k r b = map_ends k (edge_at n r) (λ j. edge_ends k _ _ (b j) (b (next n j))) (up_from 0 n)

pub lay_ends : (n k : ℕ) (m : Plan) (r : List ℕ) → Below k r → AllEnds k (lay n m r)
lay_ends n k stay r b = tt
lay_ends n k (uncross p q) r b = (edge_ends k _ _ (b p) (b q), (edge_ends k _ _ (b (next n p)) (b (next n q)), tt))
lay_ends n k (hoist h p) r b =
    (edge_ends k _ _ (b (prev n h)) (b (next n h)), (edge_ends k _ _ (b p) (b h), (edge_ends k _ _ (b h) (b (next n p)), tt)))

-- ---- a run, and the loop that is made of its ring
module _ (n k : ℕ) (pt : ℕ → Point) where
  finish_below : (r : List ℕ) → Below k r → Below k (finish n pt r)
  finish_below r b = go (clockwise n pt r)
    where
      go : (t : Bool) → Below k (cond t (turned_round n r) r)
      go true = map_below k _ (omega (arith, b 0)) (λ j. b _) (up_from 0 n)
      go false = b

  module _ (w : ℕ → State → ℕ) where
    pub step_below : (c : ℕ) (t : Traced) → Below k t.now.ring → Below k (step n pt w c t).now.ring
    step_below c t b = go (eqb (length t.now.store.dense) 0)
      where
        m : Plan
        m = plan_of n pt t.now (w c t.now)

        go : (e : Bool) → Below k (cond e t (carried n pt m t)).now.ring
        go true = b
        go false = turned_below n k m t.now.ring b

    pub run_below : (cs : List ℕ) (t : Traced) → Below k t.now.ring → Below k (run_word n pt w cs t).now.ring
    run_below [] t b = b
    run_below (c ∷ cs) t b = run_below cs (step n pt w c t) (step_below c t b)

-- ---- the points of a loop that a call delivers
abbrev pub LoopBelow : ℕ → Answer → Type 0
LoopBelow n (refused k) = Unit {0}
LoopBelow n (unfinished r m l) = Unit {0}
LoopBelow n (delivered r m c) = Below n r

module _ (n : ℕ) (pt : ℕ → Point) where
  -- the ring of a start that no check refuses
  accepted_below : (short many : Bool) (r : List ℕ) → refusal n pt short many r ≡ 0 → Below n r
  accepted_below short many r h = let a = (accepted n pt short many r).0 h in ring_below n n r (omega (arith, a.board.three)) (omega arith) a.ring

  answer_below : (k : ℕ) (t : Traced) → Below n t.now.ring → LoopBelow n (answer_from n pt k t)
  answer_below k t b = go (eqb (length t.now.store.dense) 0)
    where
      go : (e : Bool) → LoopBelow n (cond e (delivered (finish n pt t.now.ring) (length t.log) k) (unfinished t.now.ring (length t.log) (length t.now.store.dense)))
      go true = finish_below n n pt t.now.ring b
      go false = tt

  pub call_below : (short : Bool) (r cs : List ℕ) → LoopBelow n (call n pt short r cs)
  call_below short r cs = go (eqb (refusal n pt short (too_many cs) r) 0) refl
    where
      go : (e : Bool) → eqb (refusal n pt short (too_many cs) r) 0 ≡ e
          → LoopBelow n (cond e (answer n pt r (after n pt place cs r)) (refused (refusal n pt short (too_many cs) r)))
      go false h = tt
      go true h =
          let b = accepted_below short (too_many cs) r (eqb-true (refusal n pt short (too_many cs) r) 0 h) in
          answer_below (length (start n pt r).dense) (after n pt place cs r) (run_below n n pt place cs (begin n pt r) b)
