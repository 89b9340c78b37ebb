-- The counts by edge that an accepted call leaves: what the contract of `two_opt_moves` and `resolve_self_intersections` says of them.
use mathlib.Core.Path.{◌≡◌, refl, sym, ap, ◌∙◌}
use mathlib.Core.Bool.{cond}
use mathlib.Core.List.{List, [], ◌∷◌}
use Prim.Native.Nat.{ℕ, suc, ◌-◌, ◌*◌}
use native.Mathlib.Omega.{arith}
use lib.Dec.{eqb}
use lib.IntN.{ℤ}
use lib.ListN.{length, get_or, replicate}
use borrow.Author.Tests.{ne_eqb}
use Rattle.geometry.specs.Plane.{Point}
use Rattle.geometry.specs.Lent.{points}
use Rattle.index_edge.specs.Edge.{Edge}
use Rattle.polygon.specs.Edges.{edge_sum}
use Rattle.intersection_set.specs.Store.{Rec}
use Rattle.intersection_set.specs.Lists.{head_place, tangle, tangles_of}
use Rattle.intersection_set.specs.Within.{Proper}
use Rattle.intersection_set.proofs.Showing.{tangle_shown, none_tangled}
use Rattle.machine.specs.Machine.{State, after, place}
use Rattle.machine.specs.Answer.{Answer, unfinished, delivered, too_many}
use Rattle.machine.proofs.Accepted.{accepted, place_picks}
use Rattle.machine.proofs.Tangles.{run_tangles}
use Rattle.two_opt.specs.Entry.{Loan, front, short_of, first_refusal, Entry}
use Rattle.two_opt.proofs.Demand3Entries.{entry_delivers}

-- The list l holds the counts of the state s of n points, which is answered by a.
pub record TanglesLeft (n : ℕ) (l : List ℕ) (s : State) (a : Answer) : Type 0 where
  -- the whole of it, and so how many records name an edge at the edge's place
  pub whole : l ≡ tangles_of n s.store
  pub each : (e : Edge) → Proper n e → get_or l (head_place n e) 0 ≡ tangle e s.store
  -- over the ring's edges twice the records
  pub total : edge_sum (λ e. tangle e s.store) n s.ring ≡ 2 * length s.store.dense
  -- a delivered loop leaves all 0
  pub all_zero : (ring : List ℕ) (m c : ℕ) → a ≡ delivered ring m c → l ≡ replicate (n * (n - 1)) 0

-- a loop is delivered only where no record is left
none_left : (d : List Rec) (r₁ r₂ r₃ : List ℕ) (m₁ m₂ k₁ k₂ : ℕ) → ◌≡◌ {A = Answer} (cond (eqb (length d) 0) (delivered r₁ m₁ k₁) (unfinished r₂ m₁ (length d))) (delivered r₃ m₂ k₂) → d ≡ []
none_left [] r₁ r₂ r₃ m₁ m₂ k₁ k₂ h = refl
none_left (q ∷ d) r₁ r₂ r₃ m₁ m₂ k₁ k₂ h =
    let stopped : ◌≡◌ {A = Answer} (unfinished r₂ m₁ (suc (length d))) (delivered r₃ m₂ k₂) = rw (ne_eqb (suc (length d)) 0 (λ z. omega arith)) at h in
    absurd (let z : ◌≡◌ {A = ℕ} 0 1 = cc in omega arith)

pub entry_tangles : {n : ℕ} {x y : List ℤ} {r cs : List ℕ} {was is : Loan} {a : Answer} → Entry n x y r cs was is a → first_refusal n x y r cs was ≡ 0
    → TanglesLeft n (front n is).records.tangles (after n (points x y) place cs r).now a
entry_tangles {n} {x} {y} {r} {cs} {was} {is} e passed =
    let pt : ℕ → Point = points x y in
    let s : State = (after n pt place cs r).now in
    let whole = (e.ended passed).shows.tangles in
    let ok = (accepted n pt (short_of n x y was) (too_many cs) r).0 passed in
    record {
      whole = whole;
      each = λ g p. ap (λ l. get_or l (head_place n g) 0) whole ∙ tangle_shown n s.store g p;
      total = run_tangles n pt ok.board place place_picks r cs ok.ring;
      all_zero = λ ring m c is_loop. whole ∙ none_tangled n s.store (none_left s.store.dense _ _ _ _ _ _ _ (sym (entry_delivers e passed).answers ∙ is_loop));
    }
