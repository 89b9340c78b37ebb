-- Two edges that overlap: going down, the one whose lower end is higher gives way to its neighbour, until they hang together at their lower ends.
use mathlib.Core.Path.{◌≡◌, refl, sym, ap, subst}
use mathlib.Core.Bool.{Bool, true, false}
use mathlib.Core.Logic.{◌≢◌}
use Prim.Native.Nat.{ℕ, zero, suc, ◌+◌, ◌<◌}
use native.Mathlib.Omega.{arith}
use Rattle.polygon.specs.Ring.{next, prev}
use Rattle.algebra.specs.Cases.{both, le_cases, eq_cases}
use Rattle.polygon.proofs.Positions.{next_prev, prev_next}

-- an edge with its lower end p in front: on from prev p, or back from next p
abbrev pub fore : ℕ → Bool → ℕ → ℕ
fore n true p = next n p
fore n false p = prev n p

abbrev pub tail : ℕ → Bool → ℕ → ℕ
tail n true p = prev n p
tail n false p = next n p

pub tail_fore : (n : ℕ) (d : Bool) (p : ℕ) → p < n → tail n d (fore n d p) ≡ p
tail_fore n true p l = prev_next n p l
tail_fore n false p l = next_prev n p l

-- a vertex that hangs: both its edges go up
pub record Fold (n : ℕ) (h : ℕ → ℕ) (Q : Bool → ℕ → Type 0) : Type 0 where
  pub x : ℕ
  pub qt : Q true x
  pub qf : Q false x
  pub ut : h x < h (prev n x)
  pub uf : h x < h (next n x)

pub record Over (n : ℕ) (h : ℕ → ℕ) (Q : Bool → ℕ → Type 0) (d : Bool) (p : ℕ) (d' : Bool) (p' : ℕ) : Type 0 where
  pub q : Q d p
  pub q' : Q d' p'
  pub own : h p < h (tail n d p)
  pub own' : h p' < h (tail n d' p')
  pub over : h p < h (tail n d' p')
  pub over' : h p' < h (tail n d p)
  pub differ : p ≡ p' → d ≢ d'

module _ (n : ℕ) (h : ℕ → ℕ) (Q : Bool → ℕ → Type 0) (low : (d : Bool) (p : ℕ) → Q d p → p < n)
    (inj : (p p' : ℕ) → p < n → p' < n → h p ≡ h p' → p ≡ p')
    (pass : (d : Bool) (p : ℕ) (d' : Bool) (p' : ℕ) → Q d p → Q d' p' → h p' < h p → h p < h (tail n d' p') → h p < h (tail n d p) → Q d (fore n d p) × (h (fore n d p) < h p)) where
  turned : {d : Bool} {p : ℕ} {d' : Bool} {p' : ℕ} → Over n h Q d p d' p' → Over n h Q d' p' d p
  turned o = record { q = o.q'; q' = o.q; own = o.own'; own' = o.own; over = o.over'; over' = o.over; differ = λ e f. o.differ (sym e) (sym f) }

  meet : (d d' : Bool) (p : ℕ) → d ≢ d' → Q d p → Q d' p → h p < h (tail n d p) → h p < h (tail n d' p) → Fold n h Q
  meet true true p ne q q' u u' = absurd (ne refl)
  meet true false p ne q q' u u' = record { x = p; qt = q; qf = q'; ut = u; uf = u' }
  meet false true p ne q q' u u' = record { x = p; qt = q'; qf = q; ut = u'; uf = u }
  meet false false p ne q q' u u' = absurd (ne refl)

  onward : (d : Bool) (p : ℕ) (d' : Bool) (p' : ℕ) → Over n h Q d p d' p' → h p' < h p → Over n h Q d (fore n d p) d' p' × (h (fore n d p) < h p)
  onward d p d' p' o l =
      let z = pass d p d' p' o.q o.q' l o.over o.own in
      let e = tail_fore n d p (low d p o.q) in (
        record {
          q = z.0;
          q' = o.q';
          own = rw e z.1;
          own' = o.own';
          over = omega (arith, z.1, o.over);
          over' = rw e l;
          differ = λ f g. (let k : h p < h (tail n d (fore n d p)) = subst (λ b. h p < h (tail n b (fore n d p))) (sym g) (subst (λ c. h p < h (tail n d' c)) (sym f) o.over) in absurd (omega (arith, ap h e)));
        },
        z.1,
      )

  pub descend : (k : ℕ) (d : Bool) (p : ℕ) (d' : Bool) (p' : ℕ) → h p + h p' < k → Over n h Q d p d' p' → Fold n h Q
  descend zero d p d' p' b o = absurd (omega arith)
  descend (suc k) d p d' p' b o =
      both (eq_cases (h p) (h p'))
      (λ e. (let f = inj p p' (low d p o.q) (low d' p' o.q') e.0 in
      meet d d' p (o.differ f) o.q (rw f o.q') o.own (rw f o.own')))
      (λ e. both (le_cases (h p) (h p'))
      (λ g. (let (o', l) = onward d' p' d p (turned o) (omega arith) in descend k d' (fore n d' p') d p (omega arith) o'))
      (λ g. (let (o', l) = onward d p d' p' o g.0 in descend k d (fore n d p) d' p' (omega arith) o')))
