-- The start of a run, and its picks one after the other.
use mathlib.Core.Path.{subst⁻¹, ◌≡◌, refl, sym, ◌∙◌, ap, subst}
use mathlib.Core.Bool.{false}
use mathlib.Core.List.{List, [], ◌∷◌, ◌++◌}
use Prim.Native.Nat.{ℕ, ◌+◌, ◌≤◌, ◌<◌}
use native.Mathlib.Omega.{arith}
use borrow.Author.Tests.{ltb-false}
use lib.ListN.{length, get_or, take, drop, take-append-drop}
use lib.Seq.{length-take-le}
use Rattle.std.proofs.lemmas.List.{take_more, nil_from_length}
use Rattle.geometry.specs.Plane.{Point}
use Rattle.index_edge.specs.Edge.{Edge}
use Rattle.polygon.specs.Ring.{IsRing, Indexed, index_of}
use Rattle.polygon.proofs.Index.{index_is}
use Rattle.polygon.specs.Edges.{edges}
use Rattle.intersection_set.specs.Store.{empty, no_rec, chosen}
use Rattle.intersection_set.specs.Pool.{Pool}
use Rattle.intersection_set.specs.Holds.{Holds}
use Rattle.intersection_set.proofs.Lengths.{cap_small}
use Rattle.machine.specs.Board.{Board}
use Rattle.machine.specs.Machine.{State, Traced, place, begin, run_word, start, nothing_twice}
use Rattle.machine.specs.Onward.{from}
use Rattle.machine.specs.Answer.{refusal, too_many}
use Rattle.machine.proofs.Accepted.{Accepted, accepted, few_as_none}
use Rattle.machine.proofs.Bounds.{few}
use Rattle.machine.proofs.Pushes.{start_pushes}
use Rattle.machine.proofs.Exactly.{start_exact}
use Rattle.machine.proofs.Ready.{begin_ready}
use Rattle.machine.proofs.Moves.{run_append, run_longer, step_log}
use Rattle.sweeps.specs.Several.{FitAll}
use Rattle.sweeps.specs.declared.candidate.Against.TheVariants.{Greater}
use Rattle.untangle.specs.Running.{state_after, Running, Picked}

-- ---- the start
module _ (n : ℕ) (pt : ℕ → Point) (r : List ℕ) (h : refusal n pt false false r ≡ 0) where
  ok : Accepted n pt false false r
  ok = (accepted n pt false false r).0 h

  pub start_ring : IsRing n r
  start_ring = ok.ring

  pub start_few : n ≤ 256
  start_few = ok.few

  pub start_board : Board n pt
  start_board = ok.board

  pub start_room : FitAll n pt r Greater (edges n r) empty
  start_room = record {
    few = few n pt nothing_twice (begin n pt r).now [] (start_exact n pt r);
    young = omega (arith, start_pushes n pt r, cap_small ok.few);
  }

  -- before the first pick
  before_picks : {index : List ℕ} {p : Pool} → index ≡ index_of n r → Holds n p (start n pt r) → Running n pt (begin n pt r).now [] r index p
  before_picks ex hold = record { few = ok.few; board = ok.board; ready = begin_ready n pt ok.board r ok.ring; young = omega (arith, start_pushes n pt r); same_ring = refl; same_index = ex; holds = hold }

-- the checks of a call pass those of its start, and its picks are few
pub as_no_picks : (n : ℕ) (pt : ℕ → Point) (r cs : List ℕ) → refusal n pt false (too_many cs) r ≡ 0 → (length cs ≤ 1000000) × (refusal n pt false false r ≡ 0)
as_no_picks n pt r cs h =
    let few : length cs ≤ 1000000 = ltb-false 1000000 (length cs) ((accepted n pt false (too_many cs) r).0 h).few_picks in
    (few, sym (few_as_none n pt false r cs few) ∙ h)

-- so a call that passes them runs from the start: l is its ring again, whose records the buffers hold
pub begun : (n : ℕ) (pt : ℕ → Point) (r cs : List ℕ) → refusal n pt false (too_many cs) r ≡ 0 → {l index : List ℕ} {p : Pool} → l ≡ r → Indexed (length r) r index → Holds n p (start n pt l)
    → (length cs ≤ 1000000) × Running n pt (begin n pt r).now [] r index p
begun n pt r cs h {p = p} e indexed holds =
    let (few, ok) = as_no_picks n pt r cs h in
    (few, before_picks n pt r ok (index_is indexed (sym (start_ring n pt r ok).len)) (subst (λ l. Holds n p (start n pt l)) e holds))

-- ---- a pick
-- of few picks there are few before each
pub still_few : (cs : List ℕ) {i : ℕ} → i < length cs → length cs ≤ 1000000 → length (take i cs) < 1000000
still_few cs {i} l few = omega (arith, few, length-take-le i cs (omega (arith, l)))

pub running_more : {n : ℕ} {pt : ℕ → Point} {s : State} {ring index : List ℕ} {p : Pool} (cs : List ℕ) (i : ℕ) → i < length cs → Running n pt s (take i cs ++ get_or cs i 0 ∷ []) ring index p → Running n pt s (take (i + 1) cs) ring index p
running_more {n} {pt} {s} {ring} {index} {p} cs i l = subst⁻¹ (λ (xs : List ℕ). Running n pt s xs ring index p) (take_more cs i 0 l)

module _ {n : ℕ} {pt : ℕ → Point} {s : State} {cs ring index : List ℕ} {p : Pool} (run : Running n pt s cs ring index p) where
  pub live_records : p.counts.live ≡ length (state_after n pt s cs).store.dense
  live_records = run.holds.stored.live

  pub picked : {c : ℕ} {e f : Edge} → length cs < 1000000 → 0 < p.counts.live
      → (e ≡ (get_or (state_after n pt s cs).store.dense (chosen c (state_after n pt s cs).store) no_rec).e0) × (f ≡ (get_or (state_after n pt s cs).store.dense (chosen c (state_after n pt s cs).store) no_rec).e1)
      → Picked n pt s cs c e f
  picked few_picks l (a, b) = record { few_picks = few_picks; some = omega (arith, l, live_records); first = a; second = b }

  -- one move more
  pub one_more : (c : ℕ) {k : ℕ} → 0 < p.counts.live → length (run_word n pt place cs (from s)).log ≡ k → length (run_word n pt place (cs ++ c ∷ []) (from s)).log ≡ k + 1
  one_more c {k} l e =
      ap (λ (t : Traced). length t.log) (run_append n pt place cs (c ∷ []) (from s))
      ∙ step_log n pt place c (run_word n pt place cs (from s)) (λ z. (let q = ap length z in omega (arith, q, l, live_records)))
      ∙ omega (arith, e)

-- ---- the end: no record is left
module _ {n : ℕ} {pt : ℕ → Point} {s : State} {ring index : List ℕ} {p : Pool} (cs : List ℕ) (i : ℕ) (run : Running n pt s (take i cs) ring index p) where
  pub ended_early : {k : ℕ} → p.counts.live ≡ 0 → length (run_word n pt place (take i cs) (from s)).log ≡ k → Running n pt s cs ring index p × (length (run_word n pt place cs (from s)).log ≡ k)
  ended_early z e =
      let none : (state_after n pt s (take i cs)).store.dense ≡ [] = nil_from_length _ (omega (arith, live_records run)) in
      let same : run_word n pt place (take i cs) (from s) ≡ run_word n pt place cs (from s) = sym (ap (λ (xs : List ℕ). run_word n pt place xs (from s)) (sym (take-append-drop i cs)) ∙ run_longer n pt place (take i cs) (drop i cs) (from s) none) in (
        record {
          few = run.few;
          board = run.board;
          ready = run.ready;
          young = run.young;
          same_ring = run.same_ring ∙ ap (λ (t : Traced). t.now.ring) same;
          same_index = run.same_index;
          holds = subst (λ (t : Traced). Holds n p t.now.store) same run.holds;
        },
        sym (ap (λ (t : Traced). length t.log) same) ∙ e,
      )
