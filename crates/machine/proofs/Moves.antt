-- The record is empty just where a fresh search finds none; then picks change nothing; so the moves made are counted by the fresh search.
use mathlib.Core.Path.{◌≡◌, refl, sym, ap, subst, ◌∙◌}
use mathlib.Core.Bool.{Bool, true, false, cond}
use mathlib.Core.List.{List, [], ◌∷◌, ◌++◌}
use mathlib.Core.Logic.{◌↔◌}
use Prim.Native.Nat.{ℕ, zero, suc, ◌+◌, ◌*◌, ◌≤◌, ◌<◌}
use native.Mathlib.Omega.{arith}
use borrow.Author.Tests.{ltb-true, ltb-false, eqb-true, eqb-false, eq-eqb, ne_eqb}
use lib.Dec.{eqb, ltb}
use lib.ListN.{length, take}
use Rattle.std.proofs.lemmas.List.{nil_from_length}
use Rattle.algebra.specs.Counting.{one}
use Rattle.geometry.specs.Plane.{Point}
use Rattle.index_edge.specs.Edge.{Edge}
use Rattle.intersection_set.specs.Store.{Rec, counted}
use Rattle.machine.specs.Machine.{State, Laid, Traced, doubled, nothing_twice, fresh, carried, step, run_word, begin, plan_of}
use Rattle.machine.specs.Demand3.{MoveCount, Picks}
use Rattle.polygon.specs.Ring.{IsRing}
use Rattle.machine.specs.Board.{Board}
use Rattle.index_edge.proofs.Edges.{eq_edge_refl}
use Rattle.intersection_set.proofs.Records.{is_pair, counted_is}
use Rattle.algebra.specs.Cases.{both, true_or_false}
use Rattle.machine.proofs.Scans.{start_length}
use Rattle.machine.proofs.Exactly.{Exact, Inv, begin_inv, run_inv}

-- ---- empty
pub none_counted : (l : List Rec) → ((a b : Edge) → counted a b l ≡ 0) → l ≡ []
none_counted [] h = refl
none_counted (r ∷ l) h =
    let z : one (is_pair r.e0 r.e1 r) ≡ 1 = rw (eq_edge_refl r.e0, eq_edge_refl r.e1) in
    absurd (omega (arith, z, sym (counted_is r.e0 r.e1 (r ∷ l)) ∙ h r.e0 r.e1))

times_none : (x : ℕ) (b : Bool) → x * cond b 2 1 ≡ 0 → x ≡ 0
times_none x true h = omega arith
times_none x false h = omega arith

module _ (n : ℕ) (pt : ℕ → Point) where
  pub empty_fresh : (was : Edge → Edge → Bool) (s : State) (g : List Laid) → Exact n pt was s g → s.store.dense ≡ [] → fresh n pt s.ring ≡ []
  empty_fresh was s g ex h = none_counted _ (λ a b. times_none _ (doubled was a b g) (sym (ex a b) ∙ ap (counted a b) h))

  pub fresh_empty : (was : Edge → Edge → Bool) (s : State) (g : List Laid) → Exact n pt was s g → fresh n pt s.ring ≡ [] → s.store.dense ≡ []
  fresh_empty was s g ex h = none_counted _ (λ a b. ex a b ∙ ap (λ (l : List Rec). counted a b l * cond (doubled was a b g) 2 1) h ∙ omega arith)

  -- the record is empty just where a fresh search finds none
  pub none_left : (was : Edge → Edge → Bool) (t : Traced) → Inv n pt was t → (t.now.store.dense ≡ []) ↔ (fresh n pt t.now.ring ≡ [])
  none_left was t i = (empty_fresh was t.now t.log i.exact, fresh_empty was t.now t.log i.exact)

  module _ (w : ℕ → State → ℕ) where
    -- ---- once empty
    step_empty : (c : ℕ) (t : Traced) → t.now.store.dense ≡ [] → step n pt w c t ≡ t
    step_empty c t h = ap (λ (b : Bool). cond b t (carried n pt (plan_of n pt t.now (w c t.now)) t)) (eq-eqb (length t.now.store.dense) 0 (ap length h))

    pub run_empty : (cs : List ℕ) (t : Traced) → t.now.store.dense ≡ [] → run_word n pt w cs t ≡ t
    run_empty [] t h = refl
    run_empty (c ∷ cs) t h = ap (run_word n pt w cs) (step_empty c t h) ∙ run_empty cs t h

    pub run_append : (xs ys : List ℕ) (t : Traced) → run_word n pt w (xs ++ ys) t ≡ run_word n pt w ys (run_word n pt w xs t)
    run_append [] ys t = refl
    run_append (c ∷ xs) ys t = run_append xs ys (step n pt w c t)

    -- a longer list with the same beginning
    pub run_longer : (xs ys : List ℕ) (t : Traced) → (run_word n pt w xs t).now.store.dense ≡ [] → run_word n pt w (xs ++ ys) t ≡ run_word n pt w xs t
    run_longer xs ys t h = run_append xs ys t ∙ run_empty ys (run_word n pt w xs t) h

    -- ---- the moves made: k of them, by the record
    pub record MovesBy (cs : List ℕ) (t : Traced) (k : ℕ) : Type 0 where
      pub within : k ≤ length cs
      pub before : (j : ℕ) → j < k → (run_word n pt w (take j cs) t).now.store.dense ≡ [] → ⊥
      pub then_none : k < length cs → (run_word n pt w (take k cs) t).now.store.dense ≡ []

    empty_or : (l : List Rec) (P : Type 0) → (l ≡ [] → P) → ((l ≡ [] → ⊥) → P) → P
    empty_or [] P f g = f refl
    empty_or (r ∷ l) P f g = g (λ h. absurd (omega (arith, ap length h)))

    pub step_log : (c : ℕ) (t : Traced) → (t.now.store.dense ≡ [] → ⊥) → length (step n pt w c t).log ≡ suc (length t.log)
    step_log c t h =
        ap (λ (b : Bool). length (cond b t (carried n pt (plan_of n pt t.now (w c t.now)) t)).log)
        (ne_eqb (length t.now.store.dense) 0 (λ u. h (nil_from_length t.now.store.dense u)))

    pub moves_by : (cs : List ℕ) (t : Traced) → (k : ℕ) × (length (run_word n pt w cs t).log ≡ length t.log + k) × MovesBy cs t k
    moves_by [] t = (0, omega arith, record { within = omega arith; before = λ j h. absurd (omega arith); then_none = λ h. absurd (omega arith) })
    moves_by (c ∷ cs) t = go (moves_by cs (step n pt w c t))
      where
        go : (k : ℕ) × (length (run_word n pt w cs (step n pt w c t)).log ≡ length (step n pt w c t).log + k) × MovesBy cs (step n pt w c t) k → (k : ℕ) × (length (run_word n pt w (c ∷ cs) t).log ≡ length t.log + k) × MovesBy (c ∷ cs) t k
        go i =
            empty_or t.now.store.dense _
            (λ h. (0, ap (λ (u : Traced). length u.log) (run_empty (c ∷ cs) t h) ∙ omega arith, record { within = omega arith; before = λ j u. absurd (omega arith); then_none = λ _. h }))
            (λ h. (suc i.0, i.1 ∙ omega (arith, step_log c t h), record { within = omega (arith, i.2.within); before = later h i; then_none = λ u. i.2.then_none (omega arith) }))
          where
            later : (t.now.store.dense ≡ [] → ⊥) → (i : (k : ℕ) × (length (run_word n pt w cs (step n pt w c t)).log ≡ length (step n pt w c t).log + k) × MovesBy cs (step n pt w c t) k) (j : ℕ) → j < suc i.0 → (run_word n pt w (take j (c ∷ cs)) t).now.store.dense ≡ [] → ⊥
            later h i zero u = h
            later h i (suc j) u = i.2.before j (omega arith)

    -- ---- the moves made, by fresh searches: there is only one such number
    pub move_count_one : (cs : List ℕ) (t : Traced) (j k : ℕ) → MoveCount n pt w cs t j → MoveCount n pt w cs t k → j ≡ k
    move_count_one cs t j k p q =
        order j k _ (λ h. absurd (q.before j h (p.then_none (omega arith)))) (λ h. h) (λ h. absurd (p.before k h (q.then_none (omega arith))))
      where
        order : (j k : ℕ) (P : Type 0) → (j < k → P) → (j ≡ k → P) → (k < j → P) → P
        order j k P f g h =
            both (true_or_false (ltb j k)) (λ u. f (ltb-true j k u)) (λ u. both (true_or_false (eqb j k)) (λ v. g (eqb-true j k v)) (λ v. h (omega (arith, ltb-false j k u, eqb-false j k v))))

    module _ (board : Board n pt) (picks : Picks w) where
      -- the moves made, by fresh searches, from any state whose record is exact
      pub moves_from : (was : Edge → Edge → Bool) (cs : List ℕ) (t : Traced) → Inv n pt was t → (k : ℕ) × (length (run_word n pt w cs t).log ≡ length t.log + k) × MoveCount n pt w cs t k
      moves_from was cs t p =
          let i : (k : ℕ) × (length (run_word n pt w cs t).log ≡ length t.log + k) × MovesBy cs t k = moves_by cs t in
          let inv : (cs : List ℕ) → Inv n pt was (run_word n pt w cs t) = λ cs. run_inv n pt was board w picks cs t p in (
            i.0,
            i.1,
            record {
              within = i.2.within;
              before = λ j h u. i.2.before j h ((none_left was _ (inv (take j cs))).1 u);
              then_none = λ h. (none_left was _ (inv (take i.0 cs))).0 (i.2.then_none h);
            },
          )

      pub move_count : (cs r : List ℕ) → IsRing n r → MoveCount n pt w cs (begin n pt r) (length (run_word n pt w cs (begin n pt r)).log)
      move_count cs r p =
          let i = moves_from nothing_twice cs (begin n pt r) (begin_inv n pt r p) in
          let e : i.0 ≡ length (run_word n pt w cs (begin n pt r)).log = omega (arith, i.1) in
          subst (MoveCount n pt w cs (begin n pt r)) e i.2

  pub start_count_is : (r : List ℕ) → length (begin n pt r).now.store.dense ≡ length (fresh n pt r)
  start_count_is r = start_length n pt r
