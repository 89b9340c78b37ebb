-- A sweep over the edges that meet an edge is the sweep over all of them: what does not meet it makes no record.
use Rattle.std.specs.Prelude.{◌≡◌, refl, Bool, true, false, cond, List, ◌∷◌, map, filter, ℕ, zero, suc, ◌+◌, ◌≤◌, ◌<◌}
use Rattle.std.proofs.Common.{sym, ◌∙◌, ap, arith}
use Rattle.algebra.specs.Cases.{both, true_or_false, and_left, and_right}
use Rattle.algebra.specs.Ranges.{up_from}
use Rattle.geometry.specs.Plane.{Point}
use Rattle.index_edge.specs.Edge.{Edge, eq_edge, lt_edge}
use Rattle.index_edge.proofs.Edges.{eq_edge_sym, lt_edge_diff}
use Rattle.intersection_set.specs.Store.{Store, push}
use Rattle.machine.specs.Board.{meet_edges}
use Rattle.sweeps.specs.declared.candidate.Against.{Against}
use Rattle.sweeps.specs.declared.candidate.Against.TheVariants.{Others, Greater}
use Rattle.sweeps.specs.Query.{met}
use Rattle.sweeps.specs.Sweep.{first_of, second_of, asked, wanted, sweep_over}

module _ (pt : ℕ → Point) (e : Edge) where
  -- an edge that is not met makes no record
  pub unwanted : (b : Against) (f : Edge) → meet_edges pt e f ≡ meet_edges pt f e → met pt e f ≡ false → wanted pt b e f ≡ false
  unwanted Others f comm h = h
  unwanted Greater f comm h =
      both (true_or_false (lt_edge e f))
      (λ t. let apart : eq_edge f e ≡ false = eq_edge_sym f e ∙ lt_edge_diff e f t in
      rw (t, comm ∙ (rw apart at h)))
      (λ t. rw t)

  -- one that is met makes one where it is asked
  pub wanted_met : (b : Against) (f : Edge) → meet_edges pt e f ≡ meet_edges pt f e → met pt e f ≡ true → wanted pt b e f ≡ asked b e f
  wanted_met Others f comm h = h ∙ sym (and_left (asked Others e f) (meet_edges pt f e) h)
  wanted_met Greater f comm h =
      let meet : meet_edges pt e f ≡ true = comm ∙ and_right (asked Others e f) (meet_edges pt f e) h in
      both (true_or_false (lt_edge e f)) (λ t. rw (t, meet)) (λ t. rw t)

  -- a step of a sweep
  sweep_step : (b : Against) (f : Edge) (l : List Edge) (s : Store)
      → sweep_over pt b e (f ∷ l) s ≡ sweep_over pt b e l (cond (wanted pt b e f) (push (first_of b e f) (second_of b e f) s) s)
  sweep_step Others f l s = refl
  sweep_step Greater f l s = refl

  -- over the k numbers from i on, of which a test lets pass all that make a record
  pub sweep_met : (b : Against) (g : ℕ → Edge) (p : ℕ → Bool) (i k : ℕ)
      → ((j : ℕ) → i ≤ j → j < i + k → p j ≡ false → wanted pt b e (g j) ≡ false)
      → (s : Store) → sweep_over pt b e (map g (filter p (up_from i k))) s ≡ sweep_over pt b e (map g (up_from i k)) s
  sweep_met Others g p i zero h s = refl
  sweep_met Greater g p i zero h s = refl
  sweep_met b g p i (suc k) h s =
      let more = λ (u : Store). sweep_met b g p (suc i) k (λ j a l. h j (omega (arith, a)) (omega (arith, l))) u in
      both (true_or_false (p i))
      (λ t. rw t
      (sweep_step b (g i) (map g (filter p (up_from (suc i) k))) s
      ∙ more (cond (wanted pt b e (g i)) (push (first_of b e (g i)) (second_of b e (g i)) s) s)
      ∙ sym (sweep_step b (g i) (map g (up_from (suc i) k)) s)))
      (λ t. let none = h i (omega arith) (omega arith) t in
      rw t
      (more s
      ∙ ap (λ (w : Bool). sweep_over pt b e (map g (up_from (suc i) k)) (cond w (push (first_of b e (g i)) (second_of b e (g i)) s) s)) (sym none)
      ∙ sym (sweep_step b (g i) (map g (up_from (suc i) k)) s)))
