-- An edge with both ends strictly on one side of another does not meet it: it is not on that one's line, and does not cross it.
use Rattle.std.specs.Prelude.{◌≡◌, refl, Bool, true, false, not, ◌&&◌, ℕ, zero, suc, ℤ, pos, negsuc}
use Rattle.std.proofs.Common.{sym, ◌∙◌, ap, arith}
use borrow.Author.Tests.{ne_eqb}
use Rattle.algebra.specs.Cases.{never}
use Rattle.geometry.specs.Plane.{Point, is_zero, turn, collinear}
use Rattle.geometry.specs.Segment.{same_side, shared, parallel, meets}
use Rattle.geometry.proofs.Contacts.{meets_is}
use Rattle.index_edge.specs.Edge.{Edge, edge}
use Rattle.sweeps.specs.Sight.{Among, turn_to}
use Rattle.sweeps.specs.Query.{met, other}
use Rattle.sweeps.proofs.Ends.{meet_comm}
use Rattle.sweeps.proofs.Seeing.{contact_is}

-- neither of two numbers of one sign is zero
no_zero : (p q : ℤ) → same_side p q ≡ true → is_zero p ≡ false
no_zero (pos zero) q h = never false h refl
no_zero (pos (suc n)) q h = ne_eqb (suc n) 0 (λ e. omega (arith, e))
no_zero (negsuc n) q h = refl

none : (k : Bool) → (k && false) ≡ false
none true = refl
none false = refl

module _ (a b c d : Point) (h : same_side (turn a b c) (turn a b d) ≡ true) where
  off_line : parallel a b c d ≡ false
  off_line = ap (λ k. k && collinear a b d) (no_zero (turn a b c) (turn a b d) h)

  one_side : meets a b c d ≡ false
  one_side = rw (off_line, h) (none (not (shared a b c d)))

pub not_met : {n : ℕ} {pt : ℕ → Point} {e : Edge} (v w : ℕ) → Among n pt e (edge v w) → same_side (turn_to pt e v) (turn_to pt e w) ≡ true → false ≡ met pt e (edge v w)
not_met {n} {pt} {e} v w a h =
    let apart = sym (contact_is pt e v w) ∙ meets_is (pt e.lo) (pt e.hi) (pt v) (pt w) ∙ one_side (pt e.lo) (pt e.hi) (pt v) (pt w) h in
    sym (ap (λ (k : Bool). other e (edge v w) && k) (sym (meet_comm a.distinct a.first a.second) ∙ apart) ∙ none (other e (edge v w)))
