-- What `all` answers over the numbers from 0 on, as a test of all below n.
use Rattle.std.proofs.Common.{◌≡◌, sym, subst, ◌∙◌, Bool, true, false, ℕ, ◌<◌, length, arith}
use denote.Param.Members.{Mut}
use Rattle.std.specs.Bool.{MatchBool}
use Rattle.std.specs.Fn.{Called}
use Rattle.std.specs.Iterator.{ChecksAll}
use Rattle.std.specs.List.{range_with_len, AllWithin, HoldsAt}
use Rattle.std.specs.declared.ops.Range.{Range}
use Rattle.std.proofs.iter.Yields.{nat_range_steps}
use Rattle.std.proofs.lemmas.Iterator.{cases_from_all, YieldsList-from_range}
use Rattle.std.proofs.lemmas.List.FromFn.{length-range_with_len, get_or-range_with_len}
use Rattle.algebra.specs.Ranges.{all_below, true_all, all_fails}

module _ (n : ℕ) (p : ℕ → Bool) where
  told : (r : Bool) → MatchBool r (AllWithin (λ x. p x ≡ true) (range_with_len 0 n) 0 (length (range_with_len 0 n))) ((k : ℕ) × (k < length (range_with_len 0 n)) × HoldsAt (λ x. p x ≡ false) (range_with_len 0 n) k)
      → r ≡ all_below n p
  told true h = sym (true_all n p (λ i l. subst (λ j. p j ≡ true) (get_or-range_with_len 0 n i 0 l ∙ omega arith) (h i 0 (omega arith) (omega (arith, l, length-range_with_len 0 n)))))
  told false (k, l, h) = let b : k < n = omega (arith, l, length-range_with_len 0 n) in all_fails p n k b (subst (λ j. p j ≡ false) (get_or-range_with_len 0 n k 0 b ∙ omega arith) (h 0))

-- The code's test answers as p does, and stays as it is.
pub all_is : {F : Type 0} {g : Mut F (ℕ × Unit {0}) Bool} {s u : Range ℕ} {f : F} {r : Bool} (n : ℕ) (p : ℕ → Bool) → ChecksAll nat_range_steps g s f r u → s ≡ record { start = 0; end = n }
    → ((x : ℕ) (q : F) → Called g f (x, tt) true q → (q ≡ f) × (p x ≡ true)) → ((x : ℕ) (q : F) → Called g f (x, tt) false q → p x ≡ false) → r ≡ all_below n p
all_is {u = u} {f = f} {r = r} n p ran e holds fails = told n p r (cases_from_all u f r (λ x. p x ≡ true) (λ x. p x ≡ false) ran (YieldsList-from_range 0 n n e (omega arith)) holds fails)
