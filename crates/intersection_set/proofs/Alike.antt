-- Links that are read alike.
use mathlib.Core.Path.{◌≡◌, refl, sym, ap, ◌∙◌}
use mathlib.Core.Bool.{Bool, true, false, not, ◌&&◌, cond}
use Prim.Native.Nat.{ℕ}
use borrow.Author.Tests.{eqb-true}
use lib.Dec.{eqb}
use Rattle.index_edge.specs.Edge.{Edge, eq_edge}
use Rattle.algebra.specs.Cases.{and_left, and_right, both, true_or_false}
use Rattle.index_edge.proofs.Edges.{eq_edge_true, eq_edge_of}
use Rattle.intersection_set.proofs.Chains.{Links, upd, upd_head, front, unlink}

-- ---- the two edges of a slot
-- a and b the two edges of a slot: e is one of them, and they differ
pub record Valid (a b e : Edge) : Type 0 where
  pub apart : eq_edge a b ≡ false
  pub one_of : eq_edge e a ≡ false → e ≡ b

pub valid_same : (a b e g : Edge) → Valid a b e → Valid a b g → eq_edge g e ≡ cond (eq_edge e a) (eq_edge g a) (not (eq_edge g a))
valid_same a b e g ve vg =
    both (true_or_false (eq_edge e a))
    (λ u. rw u (ap (eq_edge g) (eq_edge_true e a u)))
    (λ u.
    rw u
    (both (true_or_false (eq_edge g a))
    (λ v. rw v (ap (λ (x : Edge). eq_edge x e) (eq_edge_true g a v) ∙ ap (eq_edge a) (ve.one_of u) ∙ ve.apart))
    (λ v. rw v (eq_edge_of g e (vg.one_of v ∙ sym (ve.one_of u))))))

-- ---- links that are read alike: the heads of placed edges, and along an edge the slots for which Ok holds
pub record Same (In : Edge → Type 0) (Ok : Edge → ℕ → Type 0) (k k' : Links) : Type 0 where
  pub heads : (g : Edge) → In g → k.head g ≡ k'.head g
  pub nexts : (g : Edge) (z : ℕ) → Ok g z → k.next g z ≡ k'.next g z
  pub prevs : (g : Edge) (z : ℕ) → Ok g z → k.prev g z ≡ k'.prev g z

pub upd_noop : (e : Edge) (x v : ℕ) (p : Edge → ℕ → ℕ) (g : Edge) (z : ℕ) → p e x ≡ v → p g z ≡ upd e x v p g z
upd_noop e x v p g z h =
    both (true_or_false (eq_edge g e && eqb z x))
    (λ u. rw u (ap (λ (y : Edge). p y z) (eq_edge_true g e (and_left (eq_edge g e) (eqb z x) u)) ∙ ap (p e) (eqb-true z x (and_right (eq_edge g e) (eqb z x) u)) ∙ h))
    (λ u. rw u)

module _ (In : Edge → Type 0) (Ok : Edge → ℕ → Type 0) where
  pub same_then : (a b c : Links) → Same In Ok a b → Same In Ok b c → Same In Ok a c
  same_then a b c p q =
      record { heads = λ g i. p.heads g i ∙ q.heads g i; nexts = λ g z v. p.nexts g z v ∙ q.nexts g z v; prevs = λ g z v. p.prevs g z v ∙ q.prevs g z v }

  upd_cong : (e : Edge) (x v v' : ℕ) (p q : Edge → ℕ → ℕ) (g : Edge) (z : ℕ) → v ≡ v' → p g z ≡ q g z → upd e x v p g z ≡ upd e x v' q g z
  upd_cong e x v v' p q g z h k = rw (h, k)

  pub front_same : (none : ℕ) (e : Edge) (x : ℕ) (k k' : Links) → In e → Same In Ok k k' → Same In Ok (front none e x k) (front none e x k')
  front_same none e x k k' ie s =
      record {
        heads = λ g i. rw (s.heads g i);
        nexts = λ g z v. rw (s.heads e ie, s.nexts g z v);
        prevs = λ g z v. rw (s.heads e ie) (upd_cong e x none none (cond (eqb (k'.head e) none) k.prev (upd e (k'.head e) x k.prev)) (cond (eqb (k'.head e) none) k'.prev (upd e (k'.head e) x k'.prev)) g z refl (both (eqb (k'.head e) none) g z v));
      }
    where
      both : (b : Bool) (g : Edge) (z : ℕ) → Ok g z → cond b k.prev (upd e (k'.head e) x k.prev) g z ≡ cond b k'.prev (upd e (k'.head e) x k'.prev) g z
      both true g z v = s.prevs g z v
      both false g z v = rw (s.prevs g z v)

  pub unlink_same : (none : ℕ) (e : Edge) (x : ℕ) (k k' : Links) → Ok e x → In e → Same In Ok k k' → Same In Ok (unlink none e x k) (unlink none e x k')
  unlink_same none e x k k' ve ie s =
      record {
        heads = λ g i. rw (s.prevs e x ve, s.nexts e x ve) (hs (eqb (k'.prev e x) none) (k'.next e x) g i);
        nexts = λ g z v. rw (s.prevs e x ve, s.nexts e x ve) (ns (eqb (k'.prev e x) none) (k'.prev e x) (k'.next e x) g z v);
        prevs = λ g z v. rw (s.prevs e x ve, s.nexts e x ve) (ps (eqb (k'.next e x) none) (k'.next e x) (k'.prev e x) g z v);
      }
    where
      hs : (b : Bool) (v : ℕ) (g : Edge) → In g → cond b (upd_head e v k.head) k.head g ≡ cond b (upd_head e v k'.head) k'.head g
      hs true v g i = rw (s.heads g i)
      hs false v g i = s.heads g i

      ns : (b : Bool) (y w : ℕ) (g : Edge) (z : ℕ) → Ok g z → cond b k.next (upd e y w k.next) g z ≡ cond b k'.next (upd e y w k'.next) g z
      ns true y w g z v = s.nexts g z v
      ns false y w g z v = rw (s.nexts g z v)

      ps : (b : Bool) (y w : ℕ) (g : Edge) (z : ℕ) → Ok g z → cond b k.prev (upd e y w k.prev) g z ≡ cond b k'.prev (upd e y w k'.prev) g z
      ps true y w g z v = s.prevs g z v
      ps false y w g z v = rw (s.prevs g z v)
