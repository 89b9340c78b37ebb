-- What a move finds: from buffers that hold the machine and a record that a pick takes, all that its steps ask; and that it makes the next machine.
use mathlib.Core.Path.{◌≡◌, refl, sym, ◌∙◌, ap, subst, subst⁻¹}
use mathlib.Core.Bool.{Bool, true, not, ◌&&◌, cond}
use mathlib.Core.List.{List, [], ◌∷◌, ◌++◌}
use Prim.Native.Nat.{ℕ, zero, suc, ◌-◌, ◌*◌, ◌≤◌, ◌<◌}
use native.Mathlib.Omega.{arith}
use native.Mathlib.Nat.{mod-lt}
use lib.ListN.{length, get_or}
use borrow.Author.Tests.{ne_eqb}
use Rattle.algebra.specs.Cases.{never, or_right}
use Rattle.algebra.specs.Counting.{length_snoc}
use Rattle.geometry.specs.Plane.{Point}
use Rattle.index_edge.specs.Edge.{Edge, eq_edge, edge_in}
use Rattle.index_edge.proofs.Edges.{eq_edge_of, lt_edge_diff, member_here, member_there}
use Rattle.polygon.specs.Ring.{IsRing, index_of, prev}
use Rattle.polygon.specs.Edges.{edges, direct}
use Rattle.polygon.specs.Change.{Plan, stay, uncross, hoist, by_hoist, cut, lay, turned, Fits}
use Rattle.polygon.proofs.Positions.{prev_lt}
use Rattle.polygon.proofs.RingEdges.{member_edge}
use Rattle.intersection_set.specs.Store.{Store, no_rec, chosen, removes}
use Rattle.intersection_set.specs.Pool.{Pool}
use Rattle.intersection_set.specs.Within.{Proper}
use Rattle.intersection_set.specs.Holds.{Holds}
use Rattle.machine.specs.Board.{Board}
use Rattle.machine.specs.Search.{plan_at}
use Rattle.machine.specs.Machine.{State, Traced, place, carry, carried, run_word, scans}
use Rattle.machine.specs.Onward.{from, twice_of, Ready}
use Rattle.machine.proofs.GoodPlan.{GoodPlan, Recorded, once_edges, good_plan, plan_fits, plan_ring}
use Rattle.machine.proofs.Exactly.{recorded, carry_exact}
use Rattle.machine.proofs.Bounds.{few}
use Rattle.machine.proofs.Room.{Whole, run_whole}
use Rattle.machine.proofs.Pushes.{run_fits}
use Rattle.machine.proofs.Ready.{ready_whole}
use Rattle.machine.proofs.Moves.{run_append}
use Rattle.machine.proofs.Accepted.{place_picks}
use Rattle.moves.specs.Plan.{Crossing}
use Rattle.sweeps.specs.Several.{nowhere, AllProper, FitAll}
use Rattle.sweeps.specs.declared.candidate.Against.TheVariants.{Others}
use Rattle.sweeps.proofs.Ends.{proper_at}
use Rattle.untangle.specs.Running.{state_after, Running, Picked}

-- ---- edges of a list
pub get_or_member : (l : List Edge) (i : ℕ) → i < length l → edge_in (get_or l i nowhere) l ≡ true
get_or_member [] i h = absurd (omega arith)
get_or_member (e ∷ l) zero h = member_here e e l refl
get_or_member (e ∷ l) (suc i) h = member_there (get_or l i nowhere) e l (get_or_member l i (omega arith))

-- the edges that a plan cuts are edges of the ring
cut_proper : (n : ℕ) (m : Plan) (r : List ℕ) → Fits n m → IsRing n r → 2 ≤ n → AllProper n (cut n m r)
cut_proper n stay r w ring two i h = absurd (omega arith)
cut_proper n (uncross a b) r w ring two zero h = proper_at ring two a w.la
cut_proper n (uncross a b) r w ring two (suc zero) h = proper_at ring two b w.lb
cut_proper n (uncross a b) r w ring two (suc (suc i)) h = absurd (omega arith)
cut_proper n (hoist k p) r w ring two zero h = proper_at ring two (prev n k) (prev_lt n k w.lk)
cut_proper n (hoist k p) r w ring two (suc zero) h = proper_at ring two k w.lk
cut_proper n (hoist k p) r w ring two (suc (suc zero)) h = proper_at ring two p w.lp
cut_proper n (hoist k p) r w ring two (suc (suc (suc i))) h = absurd (omega arith)

-- ---- the machine between two picks
module _ (n : ℕ) (pt : ℕ → Point) (board : Board n pt) (s : State) (ready : Ready n pt s) (cs : List ℕ) where
  abbrev t : Traced
  t = run_word n pt place cs (from s)

  pub whole_after : Whole n pt (twice_of s) t
  whole_after = run_whole n pt board (twice_of s) place place_picks cs (from s) (ready_whole n pt board s ready)

  abbrev ring : List ℕ
  ring = t.now.ring

  abbrev store : Store
  store = t.now.store

  ring_ok : IsRing n ring
  ring_ok = whole_after.inv.ring_ok

  two : 2 ≤ n
  two = omega (arith, board.three)

  module _ (c : ℕ) (some : 0 < length store.dense) where
    abbrev first : Edge
    first = (get_or store.dense (chosen c store) no_rec).e0

    abbrev second : Edge
    second = (get_or store.dense (chosen c store) no_rec).e1

    named : Recorded n pt ring first second
    named = recorded n pt (twice_of s) t.now t.log (once_edges n ring ring_ok board.three) whole_after.inv.exact (chosen c store) (mod-lt c some)

    abbrev plan : Plan
    plan = plan_at n pt ring (direct n ring first) (direct n ring second)

    good : GoodPlan n pt ring plan
    good = good_plan n pt board ring ring_ok first second named

    crossing : Crossing n pt ring first second
    crossing = record {
      first = member_edge n ring first named.first;
      second = member_edge n ring second named.second;
      differ = λ e. never (eq_edge first second) (eq_edge_of first second e) (lt_edge_diff first second named.in_order);
      meet = named.meeting;
    }

    fits : Fits n plan
    fits = plan_fits n pt board ring ring_ok first second named

    next_ring : IsRing n (turned n plan ring)
    next_ring = plan_ring n pt board ring ring_ok first second named

    lay_proper : AllProper n (lay n plan ring)
    lay_proper i h =
        let e = get_or (lay n plan ring) i nowhere in
        let m : edge_in e (edges n (turned n plan ring)) ≡ true = good.after e ∙ or_right (edge_in e (edges n ring) && not (edge_in e (cut n plan ring))) (edge_in e (lay n plan ring)) (get_or_member (lay n plan ring) i h) in
        let (j, lj, p) = member_edge n (turned n plan ring) e m in
        subst (Proper n) p (proper_at next_ring two j lj)

    next_state_lem : state_after n pt s (cs ++ c ∷ []) ≡ carry n pt plan t.now
    next_state_lem =
        ap (λ (u : Traced). u.now) (run_append n pt place cs (c ∷ []) (from s))
        ∙ ap (λ (b : Bool). (cond b t (carried n pt plan t)).now) (ne_eqb (length store.dense) 0 (λ z. (let h = some in omega arith)))

    -- the move ends with no more records than the buffers hold, and with few enough pushes
    room : n ≤ 256 → s.store.pushes ≤ n * (n - 1) → length cs < 1000000 → FitAll n pt (turned n plan ring) Others (lay n plan ring) (removes (cut n plan ring) store)
    room small young few_picks =
        let fit = run_fits n pt board (twice_of s) place place_picks (cs ++ c ∷ []) (from s) (ready_whole n pt board s ready).inv small (omega (arith, few_picks, length_snoc cs c)) young in
        record {
          few = few n pt (twice_of s) (carry n pt plan t.now) (record { hoisted = by_hoist plan; news = lay n plan ring } ∷ t.log) (carry_exact n pt (twice_of s) plan t.now t.log good whole_after.inv.exact);
          young = omega (arith, fit, ap (λ (u : State). u.store.pushes) next_state_lem);
        }

-- ---- the same of what the code holds
module _ {n : ℕ} {pt : ℕ → Point} {s : State} {cs ring' index : List ℕ} {p : Pool} {c : ℕ} {e f : Edge} (run : Running n pt s cs ring' index p) (pick : Picked n pt s cs c e f) where
  pub the_board : Board n pt
  the_board = run.board

  at_least_two : 2 ≤ n
  at_least_two = two n pt run.board s run.ready cs

  pub small : n ≤ 256
  small = run.few

  pub the_ring : IsRing n ring'
  the_ring = subst⁻¹ (IsRing n) run.same_ring (ring_ok n pt run.board s run.ready cs)

  pub crosses : Crossing n pt ring' e f
  crosses = rw (run.same_ring, pick.first, pick.second) (crossing n pt run.board s run.ready cs c pick.some)

  abbrev pub the_plan : Plan
  the_plan = plan_at n pt ring' (direct n ring' e) (direct n ring' f)

  same_plan : the_plan ≡ plan n pt run.board s run.ready cs c pick.some
  same_plan = λ i. plan_at n pt (run.same_ring i) (direct n (run.same_ring i) (pick.first i)) (direct n (run.same_ring i) (pick.second i))

  -- what the code does with the list's length the definition does with n: it finds the same plan, and cuts, lays and turns the same
  pub planned : {q : Plan} → q ≡ plan_at (length ring') pt ring' (direct (length ring') ring' e) (direct (length ring') ring' f) → q ≡ the_plan
  planned h = h ∙ ap (λ k. plan_at k pt ring' (direct k ring' e) (direct k ring' f)) the_ring.len

  -- the points that the code has are as many
  pub by_length : {m : ℕ} {q : Plan} → m ≡ n → q ≡ plan_at m pt ring' (direct m ring' e) (direct m ring' f) → q ≡ plan_at (length ring') pt ring' (direct (length ring') ring' e) (direct (length ring') ring' f)
  by_length h g = g ∙ ap (λ k. plan_at k pt ring' (direct k ring' e) (direct k ring' f)) (h ∙ sym the_ring.len)

  pub at_plan : {A : Type 0} (g : ℕ → Plan → List ℕ → A) {v : A} {q : Plan} → v ≡ g (length ring') q ring' → q ≡ the_plan → v ≡ g n the_plan ring'
  at_plan g h i = h ∙ (λ j. g (the_ring.len j) (i j) ring')

  pub plan_fits_ring : Fits n the_plan
  plan_fits_ring = rw same_plan (fits n pt run.board s run.ready cs c pick.some)

  -- what the code asks for a plan that it found in a ring by its length
  module _ {q : Plan} (eq : q ≡ plan_at (length ring') pt ring' (direct (length ring') ring' e) (direct (length ring') ring' f)) where
    pub plan_asks : Fits (length ring') q
    plan_asks = rw (the_ring.len, planned eq) plan_fits_ring

    pub at_found : {A : Type 0} (g : ℕ → Plan → List ℕ → A) {v : A} → v ≡ g (length ring') q ring' → v ≡ g n the_plan ring'
    at_found g h = at_plan g h (planned eq)

  pub cuts_proper : AllProper n (cut n the_plan ring')
  cuts_proper = cut_proper n the_plan ring' plan_fits_ring the_ring at_least_two

  pub lays_proper : AllProper n (lay n the_plan ring')
  lays_proper = rw (same_plan, run.same_ring) (lay_proper n pt run.board s run.ready cs c pick.some)

  pub turned_is_ring : IsRing n (turned n the_plan ring')
  turned_is_ring = rw (same_plan, run.same_ring) (next_ring n pt run.board s run.ready cs c pick.some)

  pub leaves_room : FitAll n pt (turned n the_plan ring') Others (lay n the_plan ring') (removes (cut n the_plan ring') (state_after n pt s cs).store)
  leaves_room = rw (same_plan, run.same_ring) (room n pt run.board s run.ready cs c pick.some run.few run.young pick.few_picks)

  pub then_ring : turned n the_plan ring' ≡ (state_after n pt s (cs ++ c ∷ [])).ring
  then_ring = rw (same_plan, run.same_ring) (sym (ap (λ (u : State). u.ring) (next_state_lem n pt run.board s run.ready cs c pick.some)))

  pub then_store : scans pt (edges n (turned n the_plan ring')) (lay n the_plan ring') (removes (cut n the_plan ring') (state_after n pt s cs).store) ≡ (state_after n pt s (cs ++ c ∷ [])).store
  then_store = rw (same_plan, run.same_ring) (sym (ap (λ (u : State). u.store) (next_state_lem n pt run.board s run.ready cs c pick.some)))

  pub turned_long : {ring₁ : List ℕ} → ring₁ ≡ turned n the_plan ring' → length ring₁ ≡ n
  turned_long h = ap length h ∙ turned_is_ring.len

  -- ---- the code's values, each known by an equation: the ring after the move, the edges inserted and those removed
  module _ {ring₁ : List ℕ} {ins rem : List Edge} (er : ring₁ ≡ turned n the_plan ring') (ei : ins ≡ lay n the_plan ring') (ed : rem ≡ cut n the_plan ring') where
    pub room_as : FitAll n pt ring₁ Others ins (removes rem (state_after n pt s cs).store)
    room_as = rw (er, ei, ed) leaves_room

    pub next_running : {index₁ : List ℕ} {p₁ : Pool} → index₁ ≡ index_of n ring₁ → Holds n p₁ (scans pt (edges n ring₁) ins (removes rem (state_after n pt s cs).store)) → Running n pt s (cs ++ c ∷ []) ring₁ index₁ p₁
    next_running {p₁ = p₁} ex h = record {
      few = run.few;
      board = run.board;
      ready = run.ready;
      young = run.young;
      same_ring = er ∙ then_ring;
      same_index = ex;
      holds = subst (Holds n p₁) ((λ i. scans pt (edges n (er i)) (ei i) (removes (ed i) (state_after n pt s cs).store)) ∙ then_store) h;
    }
