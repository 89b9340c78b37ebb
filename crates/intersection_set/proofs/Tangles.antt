-- How many records name each edge: a count that is raised or lowered at the edge's place, and what a store says of it.
use mathlib.Core.Path.{◌≡◌, refl, sym, ap, ◌∙◌}
use mathlib.Core.Bool.{true, false, cond, true≢false}
use mathlib.Core.List.{List}
use Prim.Native.Nat.{ℕ, ◌+◌, ◌-◌, ◌*◌, ◌≤◌, ◌<◌}
use native.Mathlib.Omega.{arith}
use lib.ListN.{length, get_or, set, length-set}
use lib.Seq.{get_or-set_other}
use Rattle.algebra.specs.Cases.{both, true_or_false}
use Rattle.algebra.specs.Counting.{one, count_le, count_length, count_zero}
use Rattle.index_edge.specs.Edge.{Edge, eq_edge}
use Rattle.index_edge.proofs.Edges.{eq_edge_true, eq_edge_of, eq_edge_false}
use Rattle.intersection_set.specs.Store.{Rec, Store, no_rec, names}
use Rattle.intersection_set.specs.Lists.{head_place, tangle}
use Rattle.intersection_set.specs.Pool.{Pool, tangle_at, raised, lowered}
use Rattle.intersection_set.specs.Within.{Proper, HeadOk, RaiseOk, LowerOk, RaiseBoth, LowerBoth, RemoveOk}
use Rattle.intersection_set.specs.Holds.{Each, Sound, Placed, Stored}
use Rattle.intersection_set.proofs.HeadPlaces.{placed, head_apart, head_write}
use Rattle.intersection_set.proofs.Lengths.{cap_small, head_ok, ReadAt}

-- ---- a count raised, and lowered
module _ (n : ℕ) (l : List ℕ) (e g : Edge) (w : n * (n - 1) ≤ length l) (pe : Placed n e) (pg : Placed n g) where
  anew : (f : ℕ → ℕ) → tangle_at n g (set l (head_place n e) (f (tangle_at n e l))) ≡ cond (eq_edge g e) (f (tangle_at n g l)) (tangle_at n g l)
  anew f =
      head_write n l e g (f (tangle_at n e l)) w pe pg
      ∙ both (true_or_false (eq_edge g e)) (λ u. rw u (ap (λ (x : Edge). f (tangle_at n x l)) (sym (eq_edge_true g e u)))) (λ u. rw u refl)

  pub raise_at : tangle_at n g (raised n e l) ≡ tangle_at n g l + one (eq_edge g e)
  unfolding raised
  raise_at = grind (arith, anew (λ k. k + 1))

  pub lower_at : tangle_at n g (lowered n e l) ≡ tangle_at n g l - one (eq_edge g e)
  unfolding lowered
  lower_at = grind (arith, anew (λ k. k - 1))

pub length_raised : (n : ℕ) (e : Edge) (l : List ℕ) → length (raised n e l) ≡ length l
unfolding raised
length_raised n e l = simp length-set

pub length_lowered : (n : ℕ) (e : Edge) (l : List ℕ) → length (lowered n e l) ≡ length l
unfolding lowered
length_lowered n e l = simp length-set

-- ---- another edge's count is as it was, at a place of its own
module _ {n : ℕ} {e f : Edge} {l : List ℕ} (he : HeadOk n e l) (hf : HeadOk n f l) (d : eq_edge e f ≡ false) (v : ℕ) where
  head_still : HeadOk n f (set l (head_place n e) v)
  head_still = record { small = hf.small; edge = hf.edge; place = simp length-set hf.place }

  tangle_still : tangle_at n f (set l (head_place n e) v) ≡ tangle_at n f l
  tangle_still =
      get_or-set_other l (head_place n e) (head_place n f) v 0
      (λ q. true≢false (sym (eq_edge_of e f (head_apart n e f (placed he.edge) (placed hf.edge) (sym q))) ∙ d))

module _ {n : ℕ} {e f : Edge} {l : List ℕ} where
  pub raise_next : RaiseBoth n e f l → {k : List ℕ} → k ≡ raised n e l → RaiseOk n f k
  unfolding raised
  raise_next r q =
      let he = r.first.head in
      let hf = r.second.head in
      rw q (record { head = head_still he hf r.apart _; few = rw (tangle_still he hf r.apart (tangle_at n e l + 1)) r.second.few })

  pub lower_next : LowerBoth n e f l → {k : List ℕ} → k ≡ lowered n e l → LowerOk n f k
  unfolding lowered
  lower_next r q =
      let he = r.first.head in
      let hf = r.second.head in
      rw q (record { head = head_still he hf r.apart _; some = rw (tangle_still he hf r.apart (tangle_at n e l - 1)) r.second.some })

module _ (n s : ℕ) (p : Pool) (ok : RemoveOk n s p) {e0 e1 : Edge} {n0 p0 n1 p1 : ℕ} (z : ReadAt p s e0 e1 n0 p0 n1 p1) where
  pub lower_ok : LowerBoth n e0 e1 p.tangles
  lower_ok = rw (z.edge0, z.edge1) ok.lowers

-- ---- what a store says
-- a record is named by two edges
pub names_two : (g : Edge) (r : Rec) → eq_edge r.e0 r.e1 ≡ false → one (names g r) ≡ one (eq_edge g r.e0) + one (eq_edge g r.e1)
names_two g r d =
    both (true_or_false (eq_edge g r.e0))
    (λ u. let z : eq_edge g r.e1 ≡ false = ap (λ (x : Edge). eq_edge x r.e1) (eq_edge_true g r.e0 u) ∙ d in rw (u, z))
    (λ u. rw u (omega arith))

-- a pair that is no edge is named by none
pub none_names : (n : ℕ) (s : Store) (e : Edge) → Each (Sound n) s.dense → (e.lo < e.hi → ⊥) → tangle e s ≡ 0
none_names n s e sound off =
    count_zero (names e) s.dense no_rec
    (λ j i.
    let r : Rec = get_or s.dense j no_rec in
    rw (eq_edge_false e r.e0 (λ q. off (rw q (sound j i).first.up)), eq_edge_false e r.e1 (λ q. off (rw q (sound j i).second.up))))

-- no edge is named by more records than are live
pub tangle_most : (e : Edge) (s : Store) → tangle e s ≤ length s.dense
tangle_most e s = omega (arith, count_le (names e) (λ _. true) (λ _ _. refl) s.dense, count_length s.dense)

-- so that 16 bits are enough
module _ {n : ℕ} {p : Pool} {s : Store} (h : Stored n p s) {e : Edge} (pe : Proper n e) where
  pub can_raise : RaiseOk n e p.tangles
  can_raise =
      record {
        head = head_ok h.small pe h.sizes.in_tangles;
        few = omega (arith, h.tangled e (placed pe), tangle_most e s, h.room, cap_small h.small);
      }

  pub can_lower : 0 < tangle e s → LowerOk n e p.tangles
  can_lower some = record { head = head_ok h.small pe h.sizes.in_tangles; some = omega (arith, h.tangled e (placed pe), some) }
