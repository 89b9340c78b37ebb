-- What a run leaves can be saved, wherever it is stopped: its ring, turned the right way round where no record is left, and its records.
use Rattle.std.specs.Prelude.{◌≡◌, refl, true, cond, List, [], ◌∷◌, ℕ, eqb, ltb, length}
use Rattle.std.proofs.Common.{sym, ◌∙◌, ap, subst, arith}
use borrow.Author.Tests.{eq-eqb, ne_eqb}
use Rattle.algebra.specs.Cases.{both, eq_cases}
use Rattle.algebra.specs.Counting.{one_le}
use Rattle.geometry.specs.Plane.{Point}
use Rattle.intersection_set.specs.Store.{Rec, counted}
use Rattle.machine.specs.Board.{Board}
use Rattle.machine.specs.Machine.{State, fresh, place}
use Rattle.machine.specs.Answer.{Answer, unfinished, delivered, finish}
use Rattle.machine.specs.Demand3.{Loop}
use Rattle.machine.specs.Onward.{Ready}
use Rattle.machine.proofs.Accepted.{place_picks}
use Rattle.machine.proofs.Demand3Holds.{fresh_search}
use Rattle.machine.proofs.Ready.{run_ready, ready_onward}
use Rattle.untangle.specs.Running.{state_after}
use Rattle.resolve.specs.Ended.{last_ring}
use Rattle.resume.specs.Fit.{Savable}

abbrev is_loop : Answer → ℕ
is_loop (delivered r m c) = 1
is_loop a = 0

-- with no record left a loop is delivered
apart : (d : List Rec) (r l : List ℕ) (m k j : ℕ) → d ≡ [] → ◌≡◌ {A = Answer} (cond (eqb (length d) 0) (delivered r m k) (unfinished l m (length d))) (unfinished l m j) → ⊥
apart [] r l m k j e h = (let z : ◌≡◌ {A = ℕ} 1 0 = ap is_loop h in omega arith)
apart (x ∷ d) r l m k j e h = omega (arith, ap length e)

module _ (n : ℕ) (pt : ℕ → Point) (board : Board n pt) where
  -- a state that a run can go on from can be saved
  pub ready_savable : (s : State) → Ready n pt s → Savable n pt s.ring s.store.dense
  ready_savable s ready =
      record { ring = ready.ring; ages = λ a. omega (arith, ready.numbered.ages a, one_le (ltb a s.store.pushes) true (λ _. refl)); names = ready.names }

  -- so can a delivered loop, with no record
  loop_savable : (r l : List ℕ) → Loop n pt r l → Savable n pt l []
  loop_savable r l loop = record {
    ring = loop.ring;
    ages = λ a. omega arith;
    names = record { each = λ e f p. absurd (omega (arith, sym ((fresh_search n pt board l loop.ring).each e f p) ∙ ap (counted e f) loop.none)); only = λ e f no. refl };
  }

  module _ (s : State) (ready : Ready n pt s) (cs : List ℕ) where
    abbrev t : State
    t = state_after n pt s cs

    -- no record is left only where no pair meets
    pub none_meets : t.store.dense ≡ [] → fresh n pt t.ring ≡ []
    none_meets none = by_search (fresh n pt t.ring) refl
      where
        by_search : (found : List Rec) → fresh n pt t.ring ≡ found → fresh n pt t.ring ≡ []
        by_search [] e = e
        by_search (x ∷ found) e =
            let on = ready_onward n pt board s ready place place_picks cs 0 in
            let some : fresh n pt t.ring ≡ [] → ⊥ = λ z. omega (arith, ap length (sym e ∙ z)) in
            absurd (apart t.store.dense _ _ _ 0 _ none (on.withholds some))

    pub left_savable : Savable n pt (last_ring n pt s cs) t.store.dense
    left_savable =
        both (eq_cases (length t.store.dense) 0)
        (λ z.
        let none : t.store.dense ≡ [] = empty t.store.dense z.0 in
        let e : last_ring n pt s cs ≡ finish n pt t.ring = ap (λ b. cond b (finish n pt t.ring) t.ring) (eq-eqb (length t.store.dense) 0 z.0) in
        let loop : Loop n pt t.ring (finish n pt t.ring) = (ready_onward n pt board s ready place place_picks cs 0).loop (none_meets none) in
        subst (λ r. Savable n pt r t.store.dense) (sym e) (subst (λ d. Savable n pt (finish n pt t.ring) d) (sym none) (loop_savable t.ring (finish n pt t.ring) loop)))
        (λ z.
        let e : last_ring n pt s cs ≡ t.ring = ap (λ b. cond b (finish n pt t.ring) t.ring) (ne_eqb (length t.store.dense) 0 z.0) in
        subst (λ r. Savable n pt r t.store.dense) (sym e) (ready_savable t (run_ready n pt board s ready place place_picks cs)))
      where
        empty : (d : List Rec) → length d ≡ 0 → d ≡ []
        empty [] h = refl
        empty (x ∷ d) h = absurd (omega arith)
