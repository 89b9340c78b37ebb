-- The loops that swap two positions at a time: what each turn keeps, so that the last one comes to reversed or joined.
use Rattle.std.proofs.Common.{◌≡◌, sym, ◌∙◌, ap, true, false, List, ◌≢◌, ℕ, ◌<◌, length, arith, eqb, eqb-true}
use Rattle.std.proofs.lemmas.Bool.{eqb-false}
use Rattle.polygon.specs.declared.position.Position.{Position}
use Rattle.polygon.specs.Place.{position, Apart}
use Rattle.polygon.specs.Ring.{next, prev, dist, swap, reversed, joined}
use Rattle.polygon.proofs.InPlace.{Turning, turn_met, turn_met_back, turn_goes, Joining, join_met, join_goes, join_falls}

-- ---- reversing from the ends inward: r is the ring so far, a and b the ends that are next to be swapped
pub record Reversing (n : ℕ) (r₀ : List ℕ) (p q : ℕ) (r : List ℕ) (a b : Position) : Type 0 where
  pub turning : Turning n r₀ p q r a.id.0 b.id.0
  pub first : a.size ≡ n
  pub second : b.size ≡ n

pub reversing_starts : {r : List ℕ} {a b : Position} → a.size ≡ length r → Apart a b → Reversing (length r) r a.id.0 b.id.0 r a b
reversing_starts {r} {a} e o = grind arith

module _ {n : ℕ} {r₀ : List ℕ} {p q : ℕ} {r : List ℕ} {a b : Position} (w : Reversing n r₀ p q r a b) where
  pub reversing_apart : Apart a b
  reversing_apart = grind arith

  -- the ends are swapped, and the first moves on
  module _ {r' : List ℕ} (er : r' ≡ swap r a.id.0 b.id.0) {a' : Position} (ea : a' ≡ position a.size (next a.size a.id.0)) where
    moved_on : a'.id.0 ≡ next n a.id.0
    moved_on = grind arith

    pub reversing_met : eqb a'.id.0 b.id.0 ≡ true → r' ≡ reversed n r₀ p q
    reversing_met t = er ∙ turn_met w.turning (sym moved_on ∙ eqb-true a'.id.0 b.id.0 t)

    -- the two have not met, and the second moves back
    module _ (f : eqb a'.id.0 b.id.0 ≡ false) {b' : Position} (eb : b' ≡ position b.size (prev b.size b.id.0)) where
      moved_back : b'.id.0 ≡ prev n b.id.0
      moved_back = grind arith

      not_met : next n a.id.0 ≢ b.id.0
      not_met e = eqb-false a'.id.0 b.id.0 f (moved_on ∙ e)

      pub reversing_met_back : eqb a'.id.0 b'.id.0 ≡ true → r' ≡ reversed n r₀ p q
      reversing_met_back t = er ∙ turn_met_back w.turning not_met (sym moved_on ∙ eqb-true a'.id.0 b'.id.0 t ∙ moved_back)

      pub reversing_goes : eqb a'.id.0 b'.id.0 ≡ false → Reversing n r₀ p q r' a' b'
      reversing_goes g = record {
        turning = rw (er, moved_on, moved_back) (turn_goes w.turning not_met (λ e. eqb-false a'.id.0 b'.id.0 g (moved_on ∙ e ∙ sym moved_back)));
        first = ap (λ (p : Position). p.size) ea ∙ w.first;
        second = ap (λ (p : Position). p.size) eb ∙ w.second;
      }

      pub reversing_falls : dist n a'.id.0 b'.id.0 < dist n a.id.0 b.id.0
      reversing_falls = grind arith

-- what the check of the loop needs
pub ruleset reversing_steps = (reversing_starts, reversing_apart, reversing_met, reversing_met_back, reversing_goes, reversing_falls)

-- ---- joining from k back: the point has come to b
pub record Coming (n : ℕ) (r₀ : List ℕ) (e k : ℕ) (r : List ℕ) (b : Position) : Type 0 where
  pub joining : Joining n r₀ e k r b.id.0
  pub size_is : b.size ≡ n

pub coming_starts : {r : List ℕ} {a b : Position} → a.size ≡ length r → Apart a b → Coming (length r) r a.id.0 b.id.0 r b
coming_starts {r} {a} e o = grind arith

module _ {n : ℕ} {r₀ : List ℕ} {e k : ℕ} {r : List ℕ} {b : Position} (w : Coming n r₀ e k r b) where
  pub coming_within : b.id.0 < b.size
  coming_within = rw w.size_is w.joining.lb

  -- b' is the place before it
  module _ {b' : Position} (eb : b' ≡ position b.size (prev b.size b.id.0)) where
    before_is : b'.id.0 ≡ prev n b.id.0
    before_is = grind arith

    before_size : b'.size ≡ n
    before_size = ap (λ (p : Position). p.size) eb ∙ w.size_is

    pub coming_met : eqb b'.id.0 e ≡ true → r ≡ joined n r₀ e k
    coming_met t = join_met w.joining (sym before_is ∙ eqb-true b'.id.0 e t)

    module _ (f : eqb b'.id.0 e ≡ false) where
      not_there : prev n b.id.0 ≢ e
      not_there z = eqb-false b'.id.0 e f (before_is ∙ z)

      pub coming_falls : dist n e b'.id.0 < dist n e b.id.0
      coming_falls = rw before_is (join_falls w.joining not_there)

      pub coming_apart : Apart b' b
      coming_apart = grind arith

      pub coming_goes : {r' : List ℕ} → r' ≡ swap r b'.id.0 b.id.0 → Coming n r₀ e k r' b'
      coming_goes {r'} er =
          let next_ring : r' ≡ swap r (prev n b.id.0) b.id.0 = er ∙ ap (λ i. swap r i b.id.0) before_is in
          record { joining = rw (next_ring, before_is) (join_goes w.joining not_there); size_is = before_size }

-- what the check of the loop needs
pub ruleset coming_steps = (coming_starts, coming_within, coming_met, coming_apart, coming_goes, coming_falls)
