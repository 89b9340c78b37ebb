-- What the exits of `save` answer is what the definition says.
use Rattle.std.specs.Prelude.{◌≡◌, refl, Bool, true, false, ◌&&◌, List, ℕ, ◌≤◌, ℤ, take, Ok, Err}
use Rattle.std.proofs.Common.{sym, ◌∙◌, arith}
use borrow.Author.Tests.{ne_eqb}
use Rattle.refusal.specs.declared.Refusal.{Refusal}
use Rattle.refusal.specs.declared.Refusal.TheVariants.{WrongRecords}
use Rattle.refusal.specs.Number.{number_of}
use Rattle.refusal.proofs.Numbers.{some_number}
use Rattle.geometry.specs.Lent.{points}
use Rattle.machine.specs.Answer.{refusal}
use Rattle.machine.proofs.Accepted.{Accepted, accepted}
use Rattle.checks.proofs.Checking.{same_refusal}
use Rattle.job.specs.Buffers.{put}
use Rattle.resume.specs.Image.{image_of}
use Rattle.resume.specs.Check.{savable}
use Rattle.image.specs.Bytes.{image_length, image_bytes}
use Rattle.save.specs.Saved.{records_of, slots_fit, too_short, saving_refusal, Saving}
use Rattle.save.proofs.Reading.{Enough, enough}

module _ (n : ℕ) (x y : List ℤ) (ring : List ℕ) (live : ℕ) (dense ends ages out : List ℕ) where
  abbrev short : Bool
  short = too_short n x y ring live dense ends ages out

  abbrev r : List ℕ
  r = take n ring

  abbrev fit : Bool
  fit = slots_fit n live dense && savable n (points x y) r (records_of live dense ends ages)

  abbrev k : ℕ
  k = saving_refusal n x y ring live dense ends ages out

  -- ---- an answer by the number
  refused_saving : (e : Refusal) → number_of e ≡ k → Saving n x y ring live dense ends ages out (Err e) out
  refused_saving e h =
      let no : k ≡ 0 → ⊥ = λ z. omega (arith, h, z, some_number e) in
      record { answers = rw (ne_eqb k 0 no, h) refl; bytes = rw (ne_eqb k 0 no) refl }

  module _ (s : Bool) (es : n ≤ 256 → s ≡ short) where
    checked : refusal n (points x y) s false r ≡ refusal n (points x y) short false r
    checked = same_refusal n (points x y) s short false r es

    -- a check refuses
    pub refused_early : (e : Refusal) → number_of e ≡ refusal n (points x y) s false r → Saving n x y ring live dense ends ages out (Err e) out
    unfolding saving_refusal
    refused_early e h =
        let z = h ∙ checked in
        let no : refusal n (points x y) short false r ≡ 0 → ⊥ = λ w. omega (arith, z, w, some_number e) in
        refused_saving e (z ∙ rw (ne_eqb (refusal n (points x y) short false r) 0 no) refl)

    module _ (passed : 0 ≡ refusal n (points x y) s false r) where
      none : refusal n (points x y) short false r ≡ 0
      none = sym (passed ∙ checked)

      pub is_accepted : Accepted n (points x y) short false r
      is_accepted = (accepted n (points x y) short false r).0 none

      pub is_enough : Enough n x y ring live dense ends ages out
      is_enough = enough n x y ring live dense ends ages out is_accepted.long

      -- the records do not fit
      pub refused_late : {b : Bool} → b ≡ fit → b ≡ false → Saving n x y ring live dense ends ages out (Err WrongRecords) out
      unfolding saving_refusal
      refused_late e f = refused_saving WrongRecords (sym (rw (none, sym e ∙ f) refl))

      -- the image is written
      pub written : {b : Bool} → b ≡ fit → b ≡ true → {length : ℕ} {out' : List ℕ} → length ≡ image_length n live → out' ≡ put out 0 (image_bytes n x y (image_of r (records_of live dense ends ages)))
          → Saving n x y ring live dense ends ages out (Ok length) out'
      unfolding saving_refusal
      written e f el eo = record { answers = rw (none, sym e ∙ f, el) refl; bytes = rw (none, sym e ∙ f) eo }
