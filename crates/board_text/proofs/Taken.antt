-- What one more call of an iterator gives, where it is known which items it yields: none, or the first of them, and then it yields the others.
use mathlib.Core.Path.{◌≡◌, refl, sym, ap, ◌∙◌}
use mathlib.Core.Bool.{Bool, true, false, not, cond}
use mathlib.Core.List.{List, [], ◌∷◌}
use Prim.Native.Nat.{ℕ}
use native.Mathlib.Omega.{arith}
use lib.ListN.{length}
use Rattle.std.proofs.Common.{Option, Some, None, Bor}
use Rattle.std.specs.Option.{unwrap_or, is_some}
use Rattle.std.specs.Fn.{CalledAt}
use Rattle.std.specs.Iterator.Adapters.{filter_source, filter_callee, filter_steps}
use Rattle.std.specs.declared.iter.Filter.{Filter}
use Rattle.std.specs.declared.slice.Split.{Split}
use Rattle.std.specs.Slice.Iter.{split_rest, split_done, split_callee, split_steps}
use denote.Param.Members.{Mut}
use Rattle.std.specs.List.{slice_split}
use Rattle.std.proofs.lemmas.Iterator.{YieldsList}
use Rattle.std.proofs.lemmas.Iterator.Splits.{YieldsList-from_slice_split}
use Rattle.std.proofs.lemmas.Iterator.Consumers.{YieldsList-from_filter}
use Rattle.std.proofs.lemmas.List.Splits.{length-slice_split}
use Rattle.board_text.specs.Lines.{head_or, is_hash, is_gap, is_empty, before_comment, cut}

module _ {S A B : Type 0} {steps : S → Option A → S → Type 0} {v : A → B} where
  pub taken_none : (ys : List B) {r : Option A} {s : S} (t : S) → steps s r t → YieldsList steps v s ys → r ≡ None → ys ≡ []
  taken_none [] t h y e = refl
  taken_none (b ∷ ys) {s = s} t h y e = absurd (y.runs.0 t (rw e at h))

  pub taken_some : (ys : List B) {r : Option A} {s : S} (t : S) (x : A) → steps s r t → YieldsList steps v s ys → r ≡ Some x
      → (zs : List B) × (ys ≡ v x ∷ zs) × YieldsList steps v t zs
  taken_some [] t x h y e = absurd (y.runs x t (rw e at h))
  taken_some (b ∷ ys) t x h y e = let g = y.runs.1 x t (rw e at h) in (ys, ap (λ b. b ∷ ys) (sym g.0), record { runs = g.1 })

  pub taken_more : (ys : List B) (r : Option A) {s : S} (t : S) → steps s r t → YieldsList steps v s ys → is_some r ≡ true → (b : B) × (zs : List B) × (ys ≡ b ∷ zs)
  taken_more ys None t h y e = absurd (let z : ◌≡◌ {A = ℕ} 0 1 = ap (λ b. cond b 1 0) e in omega arith)
  taken_more ys (Some x) t h y e = let g = taken_some ys t x h y refl in (v x, g.0, g.1)

  pub taken_no_more : (ys : List B) (r : Option A) {s : S} (t : S) → steps s r t → YieldsList steps v s ys → is_some r ≡ false → ys ≡ []
  taken_no_more ys None t h y e = taken_none ys t h y refl
  taken_no_more ys (Some x) t h y e = absurd (let z : ◌≡◌ {A = ℕ} 1 0 = ap (λ b. cond b 1 0) e in omega arith)

-- the fields, as a filter over the parts between gaps gives them
module _ {F G : Type 0} (g : Mut F (Bor ℕ × Unit {0}) Bool) (h : Mut G (Bor (Bor (List ℕ)) × Unit {0}) Bool) where
  pub yields_fields : {s : Filter (Split ℕ F) G} {p : Split ℕ F} {f : F} {q : G} (text : List ℕ) → filter_source s ≡ p → split_rest p ≡ text → split_done p ≡ false → split_callee p ≡ f
      → ((x : ℕ) (b : Bool) (k : F) → CalledAt g f x b k → (k ≡ f) × (b ≡ is_gap x)) → filter_callee s ≡ q
      → ((x : Bor (List ℕ)) (b : Bool) (k : G) → CalledAt h q x b k → (k ≡ q) × (b ≡ not (is_empty x.now))) → YieldsList (filter_steps (split_steps g) h) (λ x. x.now) s (cut text)
  yields_fields text source rest done callee gap closure empty =
      YieldsList-from_filter h (λ l. not (is_empty l))
      (YieldsList-from_slice_split g is_gap text (ap (λ s. split_rest s) source ∙ rest) (ap (λ s. split_done s) source ∙ done) (ap (λ s. split_callee s) source ∙ callee) gap)
      closure empty

-- the part before a comment is there
module _ {S : Type 0} {steps : S → Option (Bor (List ℕ)) → S → Type 0} where
  pub taken_part : (line : Bor (List ℕ)) (r : Option (Bor (List ℕ))) {s : S} (t : S) → steps s r t → YieldsList steps (λ x. x.now) s (slice_split is_hash line.now)
      → (unwrap_or r line).now ≡ before_comment line.now
  taken_part line None t h y =
      absurd (let z = ap length (taken_none (slice_split is_hash line.now) t h y refl) in omega (arith, z, length-slice_split is_hash line.now))
  taken_part line (Some x) t h y = let g = taken_some (slice_split is_hash line.now) t x h y refl in sym (head_is (slice_split is_hash line.now) x.now g.0 g.1)
    where
      head_is : (ys : List (List ℕ)) (a : List ℕ) (zs : List (List ℕ)) → ys ≡ a ∷ zs → head_or ys ≡ a
      head_is ys a zs e = ap head_or e
