-- Marks: where a record's edges stand, the mark of its pair, and what all marks say.
use Rattle.std.specs.Prelude.{◌≡◌, refl, ◌≢◌, Bool, true, false, cond, List, [], ◌∷◌, ◌++◌, ℕ, zero, suc, ◌+◌, ◌-◌, ◌*◌, ◌≤◌, ◌<◌, ltb, length, get_or, take, drop, replicate}
use Rattle.std.proofs.Common.{inl, inr, sym, ◌∙◌, ap, subst, arith, length-set, length-append, take-suc, take-append-drop}
use Rattle.std.proofs.lemmas.List.{length-replicate, get_or_append_left, get_or_push}
use Rattle.algebra.specs.Cases.{both, le_cases, true_or_false, never, and_left, and_right}
use Rattle.algebra.specs.Counting.{one, count_p, count_snoc, count_append}
use Rattle.index_edge.specs.Edge.{Edge, edge, eq_edge, lt_edge}
use Rattle.index_edge.proofs.Edges.{eq_edge_true, eq_edge_of, eq_edge_refl, eq_edge_false, lt_edge_irrefl, lt_edge_other, lt_edge_asym}
use Rattle.polygon.specs.Ring.{at, IsRing, Indexed}
use Rattle.polygon.specs.Edges.{edge_at}
use Rattle.polygon.proofs.Index.{index_lt}
use Rattle.polygon.proofs.RingEdges.{edges_differ}
use Rattle.intersection_set.specs.Store.{Rec, no_rec, counted}
use Rattle.intersection_set.specs.Lists.{head_place}
use Rattle.intersection_set.specs.Pool.{lesser, greater}
use Rattle.intersection_set.specs.Holds.{Placed}
use Rattle.intersection_set.proofs.HeadPlaces.{head_below, head_write}
use Rattle.intersection_set.proofs.Records.{is_pair, counted_is}
use Rattle.audit.specs.Marks.{TwoEdges, mark_place, mark_at, Between, Marked, Unfit, naming, MarksAll, SomeUnfit}

-- ---- where an edge stands
module _ {n : ℕ} {r x : List ℕ} (k : Indexed n r x) where
  pub starts_none : (v : ℕ) {e here : Edge} → here ≡ edge_at n r (at x v) → eq_edge here e ≡ false → v < n → edge_at n r (at x v) ≢ e
  starts_none v {e} {here} eh f l z = never (eq_edge here e) (eq_edge_of here e (eh ∙ z)) f

  pub starts_some : (v : ℕ) {e here : Edge} → v < n → here ≡ edge_at n r (at x v) → eq_edge here e ≡ true → (at x v < n) × (edge_at n r (at x v) ≡ e)
  starts_some v {e} {here} l eh t = (index_lt k v l refl, sym eh ∙ eq_edge_true here e t)

-- ---- two edges, by the positions of both
module _ {n : ℕ} {r : List ℕ} (ring : IsRing n r) (three : 3 ≤ n) where
  pub at_two : {e f : Edge} (p q : ℕ) → p < n → q < n → edge_at n r p ≡ e → edge_at n r q ≡ f → lt_edge e f ≡ true
      → (i : ℕ) × (j : ℕ) × Between n r e f i j × (head_place n (edge p q) ≡ mark_place n i j)
  at_two {e} {f} p q lp lq ep eq t = go (ltb p q) refl
    where
      in_turn : lesser (edge_at n r p) (edge_at n r q) ≡ e
      in_turn = (λ i. lesser (ep i) (eq i)) ∙ rw t refl

      other : greater (edge_at n r p) (edge_at n r q) ≡ f
      other = (λ i. greater (ep i) (eq i)) ∙ rw t refl

      back : lesser (edge_at n r q) (edge_at n r p) ≡ e
      back = (λ i. lesser (eq i) (ep i)) ∙ rw (lt_edge_asym e f t) refl

      back_other : greater (edge_at n r q) (edge_at n r p) ≡ f
      back_other = (λ i. greater (eq i) (ep i)) ∙ rw (lt_edge_asym e f t) refl

      differ : p ≢ q
      differ z = never (lt_edge e f) t (ap (lt_edge e) (sym eq ∙ ap (edge_at n r) (sym z) ∙ ep) ∙ lt_edge_irrefl e)

      go : (b : Bool) → ltb p q ≡ b → (i : ℕ) × (j : ℕ) × Between n r e f i j × (head_place n (edge p q) ≡ mark_place n i j)
      go true u = (p, q, record { in_turn = grind (arith, u); within = lq; first = sym in_turn; second = sym other }, rw u refl)
      go false u = (q, p, record { in_turn = grind (arith, u, differ); within = lp; first = sym back; second = sym back_other }, rw u refl)

  -- so it has a place in the table
  pub mark_below : {e f : Edge} {i j : ℕ} (table : List ℕ) → Between n r e f i j → n * (n - 1) ≤ length table → mark_place n i j < length table
  mark_below {i = i} {j = j} table b h = omega (arith, h, head_below n (record { lo = i; hi = j }) (b.within, omega (arith, b.in_turn, b.within)))

  module _ {e f : Edge} {i j : ℕ} (b : Between n r e f i j) where
    pub placed_at : Placed n (record { lo = i; hi = j })
    placed_at = (b.within, omega (arith, b.in_turn, b.within))

    differ : eq_edge (edge_at n r i) (edge_at n r j) ≡ false
    differ = eq_edge_false (edge_at n r i) (edge_at n r j) (λ z. omega (arith, b.in_turn, edges_differ n r ring three i j (omega (arith, b.in_turn, b.within)) b.within z))

    pub two_edges : TwoEdges n r e f
    two_edges = go (lt_edge (edge_at n r i) (edge_at n r j)) refl
      where
        li : i < n
        li = omega (arith, b.in_turn, b.within)

        go : (t : Bool) → lt_edge (edge_at n r i) (edge_at n r j) ≡ t → TwoEdges n r e f
        go true t =
            let ei : edge_at n r i ≡ e = sym (b.first ∙ rw t refl) in
            let ej : edge_at n r j ≡ f = sym (b.second ∙ rw t refl) in
            record { first = (i, li, ei); second = (j, b.within, ej); in_order = subst (λ x. x ≡ true) (λ k. lt_edge (ei k) (ej k)) t }
        go false t =
            let ej : edge_at n r j ≡ e = sym (b.first ∙ rw t refl) in
            let ei : edge_at n r i ≡ f = sym (b.second ∙ rw t refl) in
            let u : lt_edge (edge_at n r j) (edge_at n r i) ≡ true = lt_edge_other (edge_at n r i) (edge_at n r j) differ ∙ rw t refl in
            record { first = (j, b.within, ej); second = (i, li, ei); in_order = subst (λ x. x ≡ true) (λ k. lt_edge (ej k) (ei k)) u }

  -- a pair of edges stands at two positions only
  pub one_place : {e f : Edge} {i j p q : ℕ} → Between n r e f i j → Between n r e f p q → (i ≡ p) × (j ≡ q)
  one_place {e} {f} {i} {j} {p} {q} a b = go (lt_edge (edge_at n r i) (edge_at n r j)) (lt_edge (edge_at n r p) (edge_at n r q)) refl refl
    where
      li : i < n
      li = omega (arith, a.in_turn, a.within)

      lp : p < n
      lp = omega (arith, b.in_turn, b.within)

      same : (x y : ℕ) → x < n → y < n → edge_at n r x ≡ edge_at n r y → x ≡ y
      same x y lx ly z = edges_differ n r ring three x y lx ly z

      go : (s t : Bool) → lt_edge (edge_at n r i) (edge_at n r j) ≡ s → lt_edge (edge_at n r p) (edge_at n r q) ≡ t → (i ≡ p) × (j ≡ q)
      go true true s t = (same i p li lp (sym (a.first ∙ rw s refl) ∙ b.first ∙ rw t refl), same j q a.within b.within (sym (a.second ∙ rw s refl) ∙ b.second ∙ rw t refl))
      go false false s t = (same i p li lp (sym (a.second ∙ rw s refl) ∙ b.second ∙ rw t refl), same j q a.within b.within (sym (a.first ∙ rw s refl) ∙ b.first ∙ rw t refl))
      go true false s t =
          let x : i ≡ q = same i q li b.within (sym (a.first ∙ rw s refl) ∙ b.first ∙ rw t refl) in
          let y : j ≡ p = same j p a.within lp (sym (a.second ∙ rw s refl) ∙ b.second ∙ rw t refl) in
          absurd (omega (arith, x, y, a.in_turn, b.in_turn))
      go false true s t =
          let x : i ≡ q = same i q li b.within (sym (a.second ∙ rw s refl) ∙ b.second ∙ rw t refl) in
          let y : j ≡ p = same j p a.within lp (sym (a.first ∙ rw s refl) ∙ b.first ∙ rw t refl) in
          absurd (omega (arith, x, y, a.in_turn, b.in_turn))

-- ---- all marks
abbrev record_of : ℕ → ℕ → Edge
record_of i j = record { lo = i; hi = j }

module _ {n : ℕ} {r : List ℕ} (ring : IsRing n r) (three : 3 ≤ n) where
  -- of no record
  pub marks_none : (m : ℕ) → n * (n - 1) ≤ m → MarksAll n r [] (replicate {A = ℕ} m 0)
  marks_none m h = record {
    size = let z : length (replicate {A = ℕ} m 0) ≡ m = length-replicate m 0 in omega (arith, h, z);
    says = λ i j ij lj. zero_at m (mark_place n i j);
    few = λ i j ij lj. let z : at (replicate {A = ℕ} m 0) (mark_place n i j) ≡ 0 = zero_at m (mark_place n i j) in omega (arith, z);
    two = λ k l. absurd (omega (arith, l));
  }
    where
      zero_at : (m k : ℕ) → at (replicate {A = ℕ} m 0) k ≡ 0
      zero_at zero k = refl
      zero_at (suc m) zero = refl
      zero_at (suc m) (suc k) = zero_at m k

  module _ {d : List Rec} {t t' : List ℕ} (x : Rec) (all : MarksAll n r d t) (m : Marked n r x.e0 x.e1 t t') where
    -- the record names the edges at i and j exactly if these are its positions
    same_pair : (i j : ℕ) → i < j → j < n
        → is_pair (lesser (edge_at n r i) (edge_at n r j)) (greater (edge_at n r i) (edge_at n r j)) x ≡ eq_edge (record { lo = i; hi = j }) (record { lo = m.i; hi = m.j })
    same_pair i j ij lj = both (true_or_false (is_pair a b x)) (λ u. u ∙ sym (eq_edge_of _ _ (places (found u)))) (λ u. u ∙ sym (eq_edge_false _ _ (λ z. never (is_pair a b x) (is z) u)))
      where
        a : Edge
        a = lesser (edge_at n r i) (edge_at n r j)

        b : Edge
        b = greater (edge_at n r i) (edge_at n r j)

        found : is_pair a b x ≡ true → Between n r x.e0 x.e1 i j
        found u = record {
          in_turn = ij;
          within = lj;
          first = sym (eq_edge_true a x.e0 (and_left (eq_edge a x.e0) _ u));
          second = sym (eq_edge_true b x.e1 (and_right (eq_edge a x.e0) _ u));
        }

        places : Between n r x.e0 x.e1 i j → record_of i j ≡ record_of m.i m.j
        places f = let z = one_place ring three f m.between in λ k. record_of (z.0 k) (z.1 k)

        is : record_of i j ≡ record_of m.i m.j → is_pair a b x ≡ true
        is z =
            let ei : i ≡ m.i = ap (λ (e : Edge). e.lo) z in
            let ej : j ≡ m.j = ap (λ (e : Edge). e.hi) z in
            let ea : a ≡ x.e0 = (λ k. lesser (edge_at n r (ei k)) (edge_at n r (ej k))) ∙ sym m.between.first in
            let eb : b ≡ x.e1 = (λ k. greater (edge_at n r (ei k)) (edge_at n r (ej k))) ∙ sym m.between.second in
            rw (ea, eb, eq_edge_refl x.e0, eq_edge_refl x.e1) refl

    naming_more : (i j : ℕ) → naming n r (d ++ (x ∷ [])) i j ≡ naming n r d i j + one (is_pair (lesser (edge_at n r i) (edge_at n r j)) (greater (edge_at n r i) (edge_at n r j)) x)
    naming_more i j =
        let a = lesser (edge_at n r i) (edge_at n r j) in
        let b = greater (edge_at n r i) (edge_at n r j) in
        omega (arith, counted_is a b (d ++ (x ∷ [])), count_snoc (is_pair a b) d x, counted_is a b d)

    mark_more : (i j : ℕ) → i < j → j < n → mark_at n i j t' ≡ cond (eq_edge (record_of i j) (record_of m.i m.j)) (mark_at n m.i m.j t + 1) (mark_at n i j t)
    mark_more i j ij lj =
        ap (mark_at n i j) m.more
        ∙ head_write n t (record_of m.i m.j) (record_of i j) (mark_at n m.i m.j t + 1) all.size (placed_at ring three m.between) (lj, omega (arith, ij, lj))

    pub marks_more : MarksAll n r (d ++ (x ∷ [])) t'
    marks_more = record {
      size = omega (arith, all.size, ap length m.more, length-set t (mark_place n m.i m.j) (mark_at n m.i m.j t + 1));
      says = λ i j ij lj. both (true_or_false (eq_edge (record_of i j) (record_of m.i m.j))) (same i j ij lj) (other i j ij lj);
      few = λ i j ij lj. both (true_or_false (eq_edge (record_of i j) (record_of m.i m.j)))
          (λ u. omega (arith, rw u at (mark_more i j ij lj), m.few))
          (λ u. omega (arith, rw u at (mark_more i j ij lj), all.few i j ij lj));
      two = λ k l. both (le_cases (suc k) (length d))
          (λ h. subst (λ y. TwoEdges n r y.e0 y.e1) (sym (get_or_append_left d (x ∷ []) no_rec k h.0)) (all.two k h.0))
          (λ h. let e : length d ≡ k = omega (arith, h.0, l, length-append d (x ∷ [])) in subst (λ y. TwoEdges n r y.e0 y.e1) (sym (get_or_push d x no_rec k e)) (two_edges ring three m.between));
    }
      where
        same : (i j : ℕ) → i < j → j < n → eq_edge (record_of i j) (record_of m.i m.j) ≡ true → mark_at n i j t' ≡ naming n r (d ++ (x ∷ [])) i j
        same i j ij lj u =
            let z = eq_edge_true (record_of i j) (record_of m.i m.j) u in
            let moved : mark_at n m.i m.j t ≡ mark_at n i j t = sym (λ k. get_or t (head_place n (z k)) 0) in
            omega (arith, rw u at (mark_more i j ij lj), moved, all.says i j ij lj, naming_more i j, ap one (same_pair i j ij lj ∙ u))

        other : (i j : ℕ) → i < j → j < n → eq_edge (record_of i j) (record_of m.i m.j) ≡ false → mark_at n i j t' ≡ naming n r (d ++ (x ∷ [])) i j
        other i j ij lj u = omega (arith, rw u at (mark_more i j ij lj), all.says i j ij lj, naming_more i j, ap one (same_pair i j ij lj ∙ u))

  -- the same in a list of which d is the beginning
  pub marks_next : {t t' : List ℕ} (d : List Rec) (k : ℕ) → k < length d → MarksAll n r (take k d) t → Marked n r (get_or d k no_rec).e0 (get_or d k no_rec).e1 t t' → MarksAll n r (take (k + 1) d) t'
  marks_next {t} {t'} d k l all m =
      subst (λ x. MarksAll n r x t') (sym (ap (λ j. take j d) (let z : k + 1 ≡ suc k = omega arith in z) ∙ take-suc d k no_rec l)) (marks_more (get_or d k no_rec) all m)

  pub unfit_some : {t : List ℕ} (d : List Rec) (k : ℕ) → k < length d → MarksAll n r (take k d) t → Unfit n r (get_or d k no_rec).e0 (get_or d k no_rec).e1 t → SomeUnfit n r d
  unfit_some d k l all (inl none) = (k, l, inl none)
  unfit_some {t} d k l all (inr (i, j, b, h)) = (k, l, inr third)
    where
      x : Rec
      x = get_or d k no_rec

      before : naming n r (take k d) i j ≡ count_p (is_pair x.e0 x.e1) (take k d)
      before = (λ z. counted (sym b.first z) (sym b.second z) (take k d)) ∙ counted_is x.e0 x.e1 (take k d)

      itself : is_pair x.e0 x.e1 x ≡ true
      itself = rw (eq_edge_refl x.e0, eq_edge_refl x.e1) refl

      split : take (suc k) d ++ drop (suc k) d ≡ d
      split = take-append-drop (suc k) d

      third : 2 < counted x.e0 x.e1 d
      third =
          let p = is_pair x.e0 x.e1 in
          omega (
            arith,
            counted_is x.e0 x.e1 d,
            ap (count_p p) (sym split),
            count_append p (take (suc k) d) (drop (suc k) d),
            ap (count_p p) (take-suc d k no_rec l),
            count_snoc p (take k d) x,
            ap one itself,
            before,
            all.says i j b.in_turn b.within,
            h,
          )
