-- What a loop of the program needs: the removal of all of an edge stops by itself, and a removal keeps the reverse of the dense order.
use mathlib.Core.Path.{◌≡◌, refl, sym, ap, ◌∙◌}
use mathlib.Core.Logic.{◌≢◌}
use mathlib.Core.List.{List, [], ◌∷◌, ◌++◌}
use Prim.Native.Nat.{ℕ, zero, suc, ◌-◌, ◌≤◌, ◌<◌}
use native.Mathlib.Omega.{arith}
use borrow.Author.Tests.{eqb-true, eqb-false}
use lib.Dec.{eqb}
use lib.ListN.{length, get_or, set, get_or-append}
use lib.Seq.{get_or-set_same, get_or-set_other, get_or-take, get_or-append_seam}
use Rattle.algebra.specs.Counting.{length_snoc}
use Rattle.index_edge.specs.Edge.{Edge}
use Rattle.intersection_set.specs.Store.{Rec, Store, Found, nothing, no_rec, swap_remove, newest_from, remove_found, remove_all_fuel, grown}
pub use Rattle.intersection_set.specs.Holds.{Reverse}
use Rattle.algebra.specs.Cases.{both, true_or_false}
use Rattle.intersection_set.proofs.Slots.{Numbered, swap_remove_length, slots_differ, slot_below}

-- ---- removing while there is one to remove
pub stays : (k : ℕ) (e : Edge) (s : Store) → newest_from e 0 s.dense ≡ nothing → remove_all_fuel k e s ≡ s
stays zero e s h = refl
stays (suc k) e s h =
    let z : remove_found (newest_from e 0 s.dense) s ≡ s = ap (λ (f : Found). remove_found f s) h in
    ap (remove_all_fuel k e) z ∙ stays k e s h

-- ---- the reverse of the dense order: the place of each live slot
pub reverse_push : (d : List Rec) (r : Rec) (v : List ℕ) → r.slot < length v → ((j : ℕ) → j < length d → (get_or d j no_rec).slot ≢ r.slot) → Reverse d v → Reverse (d ++ (r ∷ [])) (set v r.slot (length d))
reverse_push d r v room new rev j h =
    both (true_or_false (eqb j (length d)))
    (λ u.
    let e : j ≡ length d = eqb-true j (length d) u in
    rw e
    (ap (λ (x : Rec). get_or (set v r.slot (length d)) x.slot 0) (get_or-append_seam d r [] no_rec) ∙ get_or-set_same v r.slot (length d) 0 room))
    (λ u.
    let i : j < length d = omega (arith, eqb-false j (length d) u, length_snoc d r) in
    ap (λ (x : Rec). get_or (set v r.slot (length d)) x.slot 0) (get_or-append d (r ∷ []) no_rec j i)
    ∙ get_or-set_other v r.slot (get_or d j no_rec).slot (length d) 0 (new j i)
    ∙ rev j i)

pub swap_other : (d : List Rec) (k j : ℕ) → k < length d → j < length d - 1 → j ≢ k → get_or (swap_remove d k) j no_rec ≡ get_or d j no_rec
swap_other d k j h i u = get_or-take (length d - 1) (set d k (get_or d (length d - 1) no_rec)) j no_rec i ∙ get_or-set_other d k j (get_or d (length d - 1) no_rec) no_rec u

pub swap_here : (d : List Rec) (k : ℕ) → k < length d → k < length d - 1 → get_or (swap_remove d k) k no_rec ≡ get_or d (length d - 1) no_rec
swap_here d k h i = get_or-take (length d - 1) (set d k (get_or d (length d - 1) no_rec)) k no_rec i ∙ get_or-set_same d k (get_or d (length d - 1) no_rec) no_rec h

pub reverse_remove : (s : Store) (k : ℕ) (v : List ℕ) → Numbered s → k < length s.dense → grown s ≤ length v → Reverse s.dense v
    → Reverse (swap_remove s.dense k) (set v (get_or s.dense (length s.dense - 1) no_rec).slot k)
reverse_remove s k v pool h room rev j i =
    let d : List Rec = s.dense in
    let z : ℕ = length d - 1 in
    let x : ℕ = (get_or d z no_rec).slot in
    let zd : z < length d = omega arith in
    let jz : j < z = omega (arith, swap_remove_length d k h) in
    let xv : x < length v = omega (arith, slot_below s pool z zd) in
    both (true_or_false (eqb j k))
    (λ u.
    let e : k ≡ j = sym (eqb-true j k u) in
    let kz : k < length d - 1 = omega arith in
    let y : get_or (swap_remove d k) j no_rec ≡ get_or d z no_rec = ap (λ (m : ℕ). get_or (swap_remove d k) m no_rec) (sym e) ∙ swap_here d k h kz in
    ap (λ (q : Rec). get_or (set v x k) q.slot 0) y ∙ get_or-set_same v x k 0 xv ∙ e)
    (λ u.
    ap (λ (q : Rec). get_or (set v x k) q.slot 0) (swap_other d k j h jz (eqb-false j k u))
    ∙ get_or-set_other v x (get_or d j no_rec).slot k 0 (slots_differ s pool j z jz zd)
    ∙ rev j (omega arith))
