-- The edges after an uncrossing: the two that are cut go, the two that are laid come, and every other stays.
use mathlib.Core.Path.{◌≡◌, refl, sym, ◌∙◌, ap}
use mathlib.Core.Bool.{false, not, ◌&&◌, ◌||◌}
use mathlib.Core.List.{List, [], ◌∷◌}
use mathlib.Core.Logic.{inl, inr, ◌≢◌}
use Prim.Native.Nat.{ℕ, suc, ◌+◌, ◌≤◌, ◌<◌}
use native.Mathlib.Omega.{arith}
use Rattle.polygon.specs.Change.{uncross, cut, lay, turned}
use Rattle.index_edge.specs.Edge.{Edge, edge, edge_in}
use Rattle.polygon.specs.Ring.{next, dist, at, flip, reversed, IsRing}
use Rattle.polygon.specs.Edges.{edge_at, edges}
use Rattle.algebra.specs.Cases.{both, le_cases, eq_cases, never}
use Rattle.polygon.proofs.Positions.{next_lt, dist_self, dist_lt, dist_inj, dist_suc, dist_zero, flip_lt, flip_in, flip_out, flip_flip}
use Rattle.polygon.proofs.RingEdges.{moved_edge, moved_edge_back, edges_differ, edge_member}
use Rattle.polygon.proofs.EdgesAfter.{EdgesAfter, edges_after}
use Rattle.index_edge.proofs.Edges.{member_here, member_there, member_cases, not_member, not_head, not_tail}

-- ---- reversing the places from p on to q
-- i and j mirror each other in the stretch: each has in the reversed ring the edge that the other has in r
record Mirrored (n : ℕ) (r : List ℕ) (p q i : ℕ) : Type 0 where
  pub j : ℕ
  pub lt : j < n
  pub inside : dist n p j < dist n p q
  pub here : edge_at n (reversed n r p q) i ≡ edge_at n r j
  pub there : edge_at n (reversed n r p q) j ≡ edge_at n r i

mirror : (n : ℕ) (r : List ℕ) (p q : ℕ) → p < n → q < n → (i : ℕ) → i < n → dist n p i < dist n p q → Mirrored n r p q i
mirror n r p q lp lq i l h =
    let f = flip n p q in
    let m = dist_lt n p lp q lq in
    let l' = next_lt n i l in
    let s : dist n p (next n i) ≡ suc (dist n p i) = dist_suc n p lp i l (omega arith) in
    let j = f (next n i) in
    let lj : j < n = flip_lt n p q lp lq (next n i) l' in
    let dj : dist n p j + suc (dist n p i) ≡ dist n p q = omega (arith, flip_in n p q lp lq (next n i) (omega arith)) in
    let sj : dist n p (next n j) ≡ suc (dist n p j) = dist_suc n p lp j lj (omega arith) in
    let nj : f i ≡ next n j = dist_inj n p lp (f i) (next n j) (flip_lt n p q lp lq i l) (next_lt n j lj) (omega (arith, flip_in n p q lp lq i (omega arith))) in
    record {
      j = j;
      lt = lj;
      inside = omega arith;
      here = moved_edge_back n f r i l j (next n j) nj refl;
      there = moved_edge_back n f r j lj i (next n i) (flip_flip n p q lp lq (next n i) l') (ap f (sym nj) ∙ flip_flip n p q lp lq i l);
    }

-- ---- uncrossing
module _ (n : ℕ) (r : List ℕ) (a b : ℕ) (la : a < n) (lb : b < n) (ab : a ≢ b) where
  -- the reversed stretch starts behind a and ends at b: counted from its start, a is the last place
  lp : next n a < n
  lp = next_lt n a la

  abbrev D : ℕ → ℕ
  D = dist n (next n a)

  abbrev f : ℕ → ℕ
  f = flip n (next n a) b

  abbrev r' : List ℕ
  r' = reversed n r (next n a) b

  dist_a : suc (D a) ≡ n
  dist_a = grind arith

  dist_b : suc (D b) < n
  dist_b = grind arith

  uncross_outside : (i : ℕ) → i < n → i ≢ a → D b < D i → edge_at n r' i ≡ edge_at n r i
  uncross_outside i l ia h = grind (arith, lp, le_cases, dist_inj, dist_a, dist_lt, dist_suc, moved_edge, flip_out)

  -- an edge that is not cut is still there: r has at some j what r' has at i, and the other way round
  uncross_kept : (i : ℕ) → i < n → i ≢ a → i ≢ b → (j : ℕ) × (j < n) × (j ≢ a) × (j ≢ b) × (edge_at n r' i ≡ edge_at n r j) × (edge_at n r' j ≡ edge_at n r i)
  uncross_kept i l ia ib =
      both (le_cases (suc (D i)) (D b))
      (λ h. let t = mirror n r (next n a) b lp lb i l h.0 in let d = t.inside in
      (t.j, t.lt, λ e. (let z = ap D e in omega (arith, dist_a, dist_b)), λ e. (let z = ap D e in omega arith), t.here, t.there))
      (λ h. both (eq_cases (D i) (D b))
      (λ g. absurd (ib (dist_inj n (next n a) lp i b l lb g.0)))
      (λ g. let same = uncross_outside i l ia (omega arith) in (i, l, ia, ib, same, same)))

  uncross_at_a : edge_at n r' a ≡ edge (at r a) (at r b)
  uncross_at_a =
      let p = next n a in
      let z = dist_self n p lp in
      moved_edge n f r a la a b (flip_out n p b a (omega (arith, dist_a, dist_b))) (dist_inj n p lp _ _ (flip_lt n p b lp lb p lp) lb (omega (arith, flip_in n p b lp lb p (omega arith))))

  uncross_at_b : edge_at n r' b ≡ edge (at r (next n a)) (at r (next n b))
  uncross_at_b =
      let p = next n a in
      moved_edge n f r b lb (next n a) (next n b) (dist_zero n p lp (f b) (flip_lt n p b lp lb b lb) (omega (arith, flip_in n p b lp lb b (omega arith)))) (flip_out n p b (next n b) (omega (arith, dist_suc n p lp b lb dist_b)))

  abbrev cut1 : Edge
  cut1 = edge_at n r a

  abbrev cut2 : Edge
  cut2 = edge_at n r b

  abbrev laid1 : Edge
  laid1 = edge (at r a) (at r b)

  abbrev laid2 : Edge
  laid2 = edge (at r (next n a)) (at r (next n b))

  module _ (ring : IsRing n r) (three : 3 ≤ n) where
    uncross_uncut : (e : Edge) (j : ℕ) → j < n → j ≢ a → j ≢ b → e ≡ edge_at n r j → edge_in e (cut n (uncross a b) r) ≡ false
    uncross_uncut e j l ja jb p =
        not_member e cut1 (cut2 ∷ []) (λ q. ja (edges_differ n r ring three j a l la (sym p ∙ q))) (not_member e cut2 [] (λ q. jb (edges_differ n r ring three j b l lb (sym p ∙ q))) refl)

    uncross_after : EdgesAfter n r (turned n (uncross a b) r) (cut n (uncross a b) r) (lay n (uncross a b) r)
    uncross_after = record {
      fore = λ i l.
          both (eq_cases i a)
          (λ h. inl (member_here (edge_at n r' i) laid1 (laid2 ∷ []) (ap (edge_at n r') h.0 ∙ uncross_at_a)))
          (λ h. both (eq_cases i b)
          (λ g. inl (member_there (edge_at n r' i) laid1 (laid2 ∷ []) (member_here (edge_at n r' i) laid2 [] (ap (edge_at n r') g.0 ∙ uncross_at_b))))
          (λ g. let (j, lj, ja, jb, here, there) = uncross_kept i l h.0 g.0 in inr (edge_member n r (edge_at n r' i) (j, lj, sym here), uncross_uncut (edge_at n r' i) j lj ja jb here)));
      laid = λ e h.
          both (member_cases e laid1 (laid2 ∷ []) h)
          (λ p. edge_member n r' e (a, la, uncross_at_a ∙ sym p))
          (λ g. both (member_cases e laid2 [] g) (λ p. edge_member n r' e (b, lb, uncross_at_b ∙ sym p)) (λ z. never false z refl));
      kept = λ i l h.
          let (j, lj, ja, jb, here, there) = uncross_kept i l (λ p. not_head (edge_at n r i) cut1 (cut2 ∷ []) h (ap (edge_at n r) p)) (λ p. not_head (edge_at n r i) cut2 [] (not_tail (edge_at n r i) cut1 (cut2 ∷ []) h) (ap (edge_at n r) p)) in
          edge_member n r' (edge_at n r i) (j, lj, there);
    }

    -- e is an edge after the uncrossing exactly when it was one that is not cut, or is laid
    pub uncross_edges : (e : Edge) → edge_in e (edges n (turned n (uncross a b) r)) ≡ (edge_in e (edges n r) && not (edge_in e (cut n (uncross a b) r))) || edge_in e (lay n (uncross a b) r)
    uncross_edges = edges_after uncross_after
