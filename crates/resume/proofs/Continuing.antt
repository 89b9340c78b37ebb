-- Runs from states that are the same but for ages and slots go on alike.
use mathlib.Core.Path.{◌≡◌, refl, sym, ◌∙◌, ap, subst}
use mathlib.Core.Bool.{Bool, true, false, not, ◌&&◌, cond}
use mathlib.Core.List.{List, [], ◌∷◌, ◌++◌}
use Prim.Native.Nat.{ℕ, suc, ◌+◌, ◌%◌, ◌≤◌}
use native.Mathlib.Omega.{arith}
use lib.Dec.{eqb}
use lib.ListN.{length, get_or, length-append, get_or-eq_default}
use Rattle.algebra.specs.Cases.{both, le_cases, never}
use Rattle.geometry.specs.Plane.{Point}
use Rattle.index_edge.specs.Edge.{Edge, eq_edge}
use Rattle.polygon.specs.Edges.{edges, direct}
use Rattle.polygon.specs.Change.{Plan, by_hoist, cut, lay, turned}
use Rattle.intersection_set.specs.Store.{Rec, Store, no_rec, removes}
use Rattle.machine.specs.Board.{meet_edges}
use Rattle.machine.specs.Search.{plan_at}
use Rattle.machine.specs.Machine.{State, Laid, Traced, scan_over, scans, carry, plan_of, carried, step, run_word, place}
use Rattle.machine.specs.Answer.{finish, delivered, unfinished}
use Rattle.machine.proofs.Pushes.{removes_pushes}
use Rattle.resume.specs.AgesAside.{Twin, SameButAges}
use Rattle.resume.specs.Continued.{later, GoesOn}
use Rattle.resume.proofs.Stores.{Alike, push_if_alike, removes_alike, push_if_pushes}

-- a choice that looks at no age and no slot
abbrev pub AgesUnseen : (ℕ → State → ℕ) → Type 0
AgesUnseen w = (c : ℕ) (s s' : State) → SameButAges s s' → w c s ≡ w c s'

-- the document's choice is one
pub place_unseen : AgesUnseen place
place_unseen c s s' a = ap (λ (k : ℕ). c % k) a.records.count

-- past the end too the records name the same
module _ (d d' : List Rec) (t : Twin d d') (k : ℕ) where
  at_first : (get_or d k no_rec).e0 ≡ (get_or d' k no_rec).e0
  at_first =
      both (le_cases (suc k) (length d)) (λ h. t.first k h.0)
      (λ h. ap (λ (r : Rec). r.e0) (get_or-eq_default d no_rec (omega (arith, h.0)) ∙ sym (get_or-eq_default d' no_rec (omega (arith, h.0, t.count)))))

  at_second : (get_or d k no_rec).e1 ≡ (get_or d' k no_rec).e1
  at_second =
      both (le_cases (suc k) (length d)) (λ h. t.second k h.0)
      (λ h. ap (λ (r : Rec). r.e1) (get_or-eq_default d no_rec (omega (arith, h.0)) ∙ sym (get_or-eq_default d' no_rec (omega (arith, h.0, t.count)))))

module _ (pt : ℕ → Point) where
  scan_over_alike : (e : Edge) (l : List Edge) (s s' : Store) → Alike s s' → Alike (scan_over pt e l s) (scan_over pt e l s')
  scan_over_alike e [] s s' a = a
  scan_over_alike e (f ∷ l) s s' a = scan_over_alike e l _ _ (push_if_alike (not (eq_edge f e) && meet_edges pt f e) f e s s' a)

  scans_alike : (all l : List Edge) (s s' : Store) → Alike s s' → Alike (scans pt all l s) (scans pt all l s')
  scans_alike all [] s s' a = a
  scans_alike all (e ∷ l) s s' a = scans_alike all l (scan_over pt e all s) (scan_over pt e all s') (scan_over_alike e all s s' a)

  scan_over_pushes : (e : Edge) (l : List Edge) (s s' : Store) → s'.pushes ≤ s.pushes → (scan_over pt e l s').pushes ≤ (scan_over pt e l s).pushes
  scan_over_pushes e [] s s' h = h
  scan_over_pushes e (f ∷ l) s s' h = scan_over_pushes e l _ _ (push_if_pushes (not (eq_edge f e) && meet_edges pt f e) f e s s' h)

  scans_pushes : (all l : List Edge) (s s' : Store) → s'.pushes ≤ s.pushes → (scans pt all l s').pushes ≤ (scans pt all l s).pushes
  scans_pushes all [] s s' h = h
  scans_pushes all (e ∷ l) s s' h = scans_pushes all l (scan_over pt e all s) (scan_over pt e all s') (scan_over_pushes e all s s' h)

module _ (n : ℕ) (pt : ℕ → Point) where
  carry_pushes : (m m' : Plan) → m ≡ m' → (s s' : State) → s.ring ≡ s'.ring → s'.store.pushes ≤ s.store.pushes
      → (carry n pt m' s').store.pushes ≤ (carry n pt m s).store.pushes
  carry_pushes m m' e s s' er h =
      subst (λ (p : Plan). (carry n pt p s').store.pushes ≤ (carry n pt m s).store.pushes) e
      (subst (λ (r : List ℕ). (carry n pt m (record { ring = r; store = s'.store })).store.pushes ≤ (carry n pt m s).store.pushes) er
      (scans_pushes pt (edges n (turned n m s.ring)) (lay n m s.ring) (removes (cut n m s.ring) s.store) (removes (cut n m s.ring) s'.store)
      (omega (arith, removes_pushes (cut n m s.ring) s.store, removes_pushes (cut n m s.ring) s'.store))))

  store_alike : (m : Plan) (r : List ℕ) (s s' : Store) → Alike s s'
      → Alike (scans pt (edges n (turned n m r)) (lay n m r) (removes (cut n m r) s)) (scans pt (edges n (turned n m r)) (lay n m r) (removes (cut n m r) s'))
  store_alike m r s s' a = scans_alike pt (edges n (turned n m r)) (lay n m r) (removes (cut n m r) s) (removes (cut n m r) s') (removes_alike (cut n m r) s s' a)

  pub carry_same : (m m' : Plan) → m ≡ m' → (s s' : State) → SameButAges s s' → SameButAges (carry n pt m s) (carry n pt m' s')
  carry_same m m' e s s' a =
      subst (λ (p : Plan). SameButAges (carry n pt m s) (carry n pt p s')) e
      (subst (λ (r : List ℕ). SameButAges (carry n pt m s) (carry n pt m (record { ring = r; store = s'.store }))) a.ring
      (let z = store_alike m s.ring s.store s'.store (record { records = a.records; old = a.old; old' = a.old' }) in
      record { ring = refl; records = z.records; old = z.old; old' = z.old' }))

  pub plan_of_same : (s s' : State) → SameButAges s s' → (k : ℕ) → plan_of n pt s k ≡ plan_of n pt s' k
  plan_of_same s s' a k =
      let e0 = at_first s.store.dense s'.store.dense a.records k in
      let e1 = at_second s.store.dense s'.store.dense a.records k in
      λ i. plan_at n pt (a.ring i) (direct n (a.ring i) (e0 i)) (direct n (a.ring i) (e1 i))

  -- ---- the run
  -- two runs, the first with the moves of g before
  pub record Along (g : List Laid) (t u : Traced) : Type 0 where
    pub state : SameButAges t.now u.now
    pub log : t.log ≡ u.log ++ g
    pub next_age : u.now.store.pushes ≤ t.now.store.pushes

  module _ (w : ℕ → State → ℕ) (unseen : AgesUnseen w) (g : List Laid) where
    step_along : (c : ℕ) (t u : Traced) → Along g t u → Along g (step n pt w c t) (step n pt w c u)
    step_along c t u a = go (eqb (length t.now.store.dense) 0) (eqb (length u.now.store.dense) 0) (ap (λ (k : ℕ). eqb k 0) a.state.records.count)
      where
        m : Plan
        m = plan_of n pt t.now (w c t.now)

        m' : Plan
        m' = plan_of n pt u.now (w c u.now)

        same : m ≡ m'
        same = plan_of_same t.now u.now a.state (w c t.now) ∙ ap (plan_of n pt u.now) (unseen c t.now u.now a.state)

        go : (b b' : Bool) → b ≡ b' → Along g (cond b t (carried n pt m t)) (cond b' u (carried n pt m' u))
        go true true e = a
        go false false e = record {
          state = carry_same m m' same t.now u.now a.state;
          log = λ i. record { hoisted = by_hoist (same i); news = lay n (same i) (a.state.ring i) } ∷ a.log i;
          next_age = carry_pushes m m' same t.now u.now a.state.ring a.next_age;
        }
        go true false e = never true refl e
        go false true e = never false e refl

    run_along : (cs : List ℕ) (t u : Traced) → Along g t u → Along g (run_word n pt w cs t) (run_word n pt w cs u)
    run_along [] t u a = a
    run_along (c ∷ cs) t u a = run_along cs (step n pt w c t) (step n pt w c u) (step_along c t u a)

  goes_on : (g : List Laid) (t u : Traced) → Along g t u → GoesOn n pt g t u
  goes_on g t u a = record {
    state = a.state;
    log = a.log;
    moves = count;
    next_age = a.next_age;
    answers = λ k k'. answers k k' (eqb (length t.now.store.dense) 0) (eqb (length u.now.store.dense) 0) (ap (λ (j : ℕ). eqb j 0) a.state.records.count);
  }
    where
      count : length t.log ≡ length g + length u.log
      count = ap length a.log ∙ length-append u.log g ∙ omega arith

      answers : (k k' : ℕ) (b b' : Bool) → b ≡ b'
          → cond b (delivered (finish n pt t.now.ring) (length t.log) k) (unfinished t.now.ring (length t.log) (length t.now.store.dense))
          ≡ later (length g) k (cond b' (delivered (finish n pt u.now.ring) (length u.log) k') (unfinished u.now.ring (length u.log) (length u.now.store.dense)))
      answers k k' true true e = λ i. delivered (finish n pt (a.state.ring i)) (count i) k
      answers k k' false false e = λ i. unfinished (a.state.ring i) (count i) (a.state.records.count i)
      answers k k' true false e = never true refl e
      answers k k' false true e = never false e refl

  -- From two states that are the same but for ages and slots, u counting its moves from 0: every list of picks goes on alike.
  pub run_goes_on : (w : ℕ → State → ℕ) → AgesUnseen w → (t u : Traced) → SameButAges t.now u.now → u.log ≡ [] → u.now.store.pushes ≤ t.now.store.pushes
      → (cs : List ℕ) → GoesOn n pt t.log (run_word n pt w cs t) (run_word n pt w cs u)
  run_goes_on w unseen t u a none young cs =
      let b : Along t.log t u = record { state = a; log = ap (λ (l : List Laid). l ++ t.log) (sym none); next_age = young } in
      goes_on t.log (run_word n pt w cs t) (run_word n pt w cs u) (run_along w unseen t.log cs t u b)
