-- The heads and link fields of the pool, read as links along edges; and that linking and unlinking them is what the plain lists say.
use mathlib.Core.Path.{◌≡◌, refl, sym, ap, subst, ◌∙◌}
use mathlib.Core.Logic.{◌≢◌}
use mathlib.Core.Bool.{Bool, true, false, not, ◌&&◌, cond, and-false}
use mathlib.Core.List.{List}
use Prim.Native.Nat.{ℕ, ◌-◌, ◌*◌, ◌≤◌, ◌<◌}
use borrow.Author.Tests.{eqb-true, eqb-false, ne_eqb}
use lib.Dec.{eqb}
use lib.ListN.{length, get_or, set}
use lib.Seq.{get_or-set_same, get_or-set_other}
use Rattle.index_edge.specs.Edge.{Edge, eq_edge}
use Rattle.algebra.specs.Cases.{both, true_or_false}
use Rattle.intersection_set.specs.Lists.{none, head_place}
use Rattle.intersection_set.specs.Pool as pool
use Rattle.intersection_set.specs.Pool.{Ends, no_ends, Pair, end0, end1, put_end, set_end, set_head}
use Rattle.intersection_set.specs.Holds.{Placed}
use Rattle.intersection_set.proofs.Chains.{Links, upd, upd_head, front, unlink}
use Rattle.intersection_set.proofs.Alike.{Valid, valid_same, Same, upd_noop}
use Rattle.intersection_set.proofs.HeadPlaces.{head_write}

-- what is read along e at slot t: the first end's link if that is e, else the second's
abbrev pub link_at : List Pair → List Ends → Edge → ℕ → ℕ
link_at v x e t = cond (eq_edge e (end0 v t)) (get_or x t no_ends).x0 (get_or x t no_ends).x1

abbrev pub view : ℕ → List Pair → pool.Links → Links
view n v l = record { head = λ e. get_or l.heads (head_place n e) 0; next = link_at v l.next; prev = link_at v l.prev }

abbrev pub At : List Pair → Edge → ℕ → Type 0
At v g z = Valid (end0 v z) (end1 v z) g

-- a slot that may be written along e
pub record Reach (v : List Pair) (x : List Ends) (e : Edge) (y : ℕ) : Type 0 where
  pub inside : y < length x
  pub valid : Valid (end0 v y) (end1 v y) e

-- ---- a link written along e at slot y, read along g at slot z
abbrev put : List Ends → ℕ → ℕ → Bool → List Ends
put x y w b = set x y (put_end b w (get_or x y no_ends))

chosen : (y : Ends) (w : ℕ) (b t u : Bool) → u ≡ cond b t (not t) → cond t (put_end b w y).x0 (put_end b w y).x1 ≡ cond (u && true) w (cond t y.x0 y.x1)
chosen y w true true u q = rw q
chosen y w true false u q = rw q
chosen y w false true u q = rw q
chosen y w false false u q = rw q

here : (x : List Ends) (y w : ℕ) → y < length x → (b t u : Bool) → u ≡ cond b t (not t)
    → cond t (get_or (put x y w b) y no_ends).x0 (get_or (put x y w b) y no_ends).x1 ≡ cond (u && true) w (cond t (get_or x y no_ends).x0 (get_or x y no_ends).x1)
here x y w h b t u q = ap (λ (k : Ends). cond t k.x0 k.x1) (get_or-set_same x y (put_end b w (get_or x y no_ends)) no_ends h) ∙ chosen (get_or x y no_ends) w b t u q

there : (x : List Ends) (y w z : ℕ) → z ≢ y → (b t : Bool) → cond t (get_or (put x y w b) z no_ends).x0 (get_or (put x y w b) z no_ends).x1 ≡ cond t (get_or x z no_ends).x0 (get_or x z no_ends).x1
there x y w z d b t = ap (λ (k : Ends). cond t k.x0 k.x1) (get_or-set_other x y z (put_end b w (get_or x y no_ends)) no_ends d)

along : (v : List Pair) (x : List Ends) (e : Edge) (y w : ℕ) → Reach v x e y → (g : Edge) (z : ℕ) → At v g z → link_at v (put x y w (eq_edge e (end0 v y))) g z ≡ upd e y w (link_at v x) g z
along v x e y w r g z vg =
    both (true_or_false (eqb z y))
    (λ u.
    let q : z ≡ y = eqb-true z y u in
    let vg' : At v g y = subst (At v g) q vg in
    rw u
    (subst (λ (k : ℕ). link_at v (put x y w (eq_edge e (end0 v y))) g k ≡ cond (eq_edge g e && true) w (link_at v x g k)) (sym q)
    (here x y w r.inside (eq_edge e (end0 v y)) (eq_edge g (end0 v y)) (eq_edge g e) (valid_same (end0 v y) (end1 v y) e g r.valid vg'))))
    (λ u. rw (u, and-false (eq_edge g e)) (there x y w z (eqb-false z y u) (eq_edge e (end0 v y)) (eq_edge g (end0 v z))))

pub set_reads : (v : List Pair) (y : ℕ) (e : Edge) (w : ℕ) (x : List Ends) → (y ≢ none → Reach v x e y) → (g : Edge) (z : ℕ) → At v g z
    → link_at v (set_end y e w v x) g z ≡ cond (eqb y none) (link_at v x) (upd e y w (link_at v x)) g z
unfolding set_end
set_reads v y e w x r g z vg = go (eqb y none) refl
  where
    go : (b : Bool) → eqb y none ≡ b → link_at v (cond b x (put x y w (eq_edge e (end0 v y)))) g z ≡ cond b (link_at v x) (upd e y w (link_at v x)) g z
    go true u = refl
    go false u = along v x e y w (r (eqb-false y none u)) g z vg

-- ---- the code's link and unlink are the lists'
abbrev cut_out : Edge → ℕ → ℕ → Links → Links
cut_out e i j k =
    record {
      head = cond (eqb i none) (upd_head e j k.head) k.head;
      next = cond (eqb i none) k.next (upd e i j k.next);
      prev = cond (eqb j none) k.prev (upd e j i k.prev);
    }

module _ (n : ℕ) (v : List Pair) (l : pool.Links) (wide : n * (n - 1) ≤ length l.heads) (e : Edge) (pe : Placed n e) where
  pub link_is : (x : ℕ) → x ≢ none → Reach v l.next e x → ((view n v l).head e ≢ none → Reach v l.prev e ((view n v l).head e)) → ((view n v l).head e ≢ none → (view n v l).head e ≢ x)
      → (view n v l).prev e x ≡ none
      → Same (Placed n) (At v) (view n v (pool.link_front n e x v l)) (front none e x (view n v l))
  unfolding pool.link_front
  link_is x xn rx rh dh pv =
      let h : ℕ = (view n v l).head e in
      let P : Edge → ℕ → ℕ = link_at v l.prev in
      record {
        heads = λ g pg. head_write n l.heads e g x wide pe pg;
        nexts = λ g z val. set_reads v x e h l.next (λ _. rx) g z val ∙ ap (λ (b : Bool). cond b (link_at v l.next) (upd e x h (link_at v l.next)) g z) (ne_eqb x none xn);
        prevs = λ g z val. set_reads v h e x l.prev rh g z val ∙ upd_noop e x none (cond (eqb h none) P (upd e h x P)) g z (old (eqb h none) refl);
      }
    where
      old : (b : Bool) → eqb ((view n v l).head e) none ≡ b → cond b (link_at v l.prev) (upd e ((view n v l).head e) x (link_at v l.prev)) e x ≡ none
      old true u = pv
      old false u = rw (ne_eqb x ((view n v l).head e) (λ q. dh (eqb-false _ none u) (sym q)), and-false (eq_edge e e)) pv

  pub unlink_is : (x p q : ℕ) → p ≡ (view n v l).prev e x → q ≡ (view n v l).next e x → (p ≢ none → Reach v l.next e p) → (q ≢ none → Reach v l.prev e q)
      → Same (Placed n) (At v) (view n v (pool.unlink_from n e q p v l)) (unlink none e x (view n v l))
  unfolding pool.unlink_from set_head
  unlink_is x p q hp hq rp rq =
      subst (λ (i : ℕ). Same (Placed n) (At v) (view n v (pool.unlink_from n e q p v l)) (cut_out e i ((view n v l).next e x) (view n v l))) hp
      (subst (λ (j : ℕ). Same (Placed n) (At v) (view n v (pool.unlink_from n e q p v l)) (cut_out e p j (view n v l))) hq
      (record {
        heads = λ g pg. hs (eqb p none) g pg;
        nexts = λ g z val. set_reads v p e q l.next rp g z val;
        prevs = λ g z val. set_reads v q e p l.prev rq g z val;
      }))
    where
      hs : (b : Bool) (g : Edge) → Placed n g → get_or (cond b (set l.heads (head_place n e) q) l.heads) (head_place n g) 0 ≡ cond b (upd_head e q (view n v l).head) (view n v l).head g
      hs true g pg = head_write n l.heads e g q wide pe pg
      hs false g pg = refl
