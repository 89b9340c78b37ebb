-- An image taken up over one of two boards with the same runs: the same checks, the same call, the same machine as over the other.
use Rattle.std.specs.Prelude.{◌≡◌, refl, Bool, true, false, ◌&&◌, cond, List, ℕ, eqb, length}
use Rattle.std.proofs.Common.{◌∙◌, ap, eqb-true}
use Rattle.geometry.specs.Plane.{Point}
use Rattle.polygon.specs.Ring.{IsRing}
use Rattle.intersection_set.specs.Store.{Rec}
use Rattle.machine.specs.Machine.{State, run_word, place}
use Rattle.machine.specs.Answer.{Answer, refused, answer_from, too_many, refusal}
use Rattle.machine.proofs.Accepted.{accepted}
use Rattle.resume.specs.Image.{Image, take_up, resumed}
use Rattle.resume.specs.Check.{ages_all, none_else, none_missing, fits, image_refusal, take_up_call}
use Rattle.resume.proofs.Calls.{image_accepted}
use Rattle.alike.specs.Same.{SameRuns}

module _ (n : ℕ) (pt qt : ℕ → Point) (same : SameRuns n pt qt) where
  -- check 21 answers the same of an image whose ring is one
  pub fits_same : (m : Image) → IsRing n m.ring → fits n qt m ≡ fits n pt m
  fits_same m ring =
      let d : List Rec = (take_up m).store.dense in
      ap (λ (l : List Rec). ages_all d && (none_else d l && none_missing d l)) (same.searches m.ring ring)

  -- so do all checks, of any image: what is refused before 21 is not asked whether it fits
  pub image_refusal_same : (short many : Bool) (m : Image) → image_refusal n qt short many m ≡ image_refusal n pt short many m
  image_refusal_same short many m =
      ap (λ (k : ℕ). cond (eqb k 0) (cond (fits n qt m) 0 21) k) (same.refusals short many m.ring) ∙ go (eqb was 0) refl
    where
      was : ℕ
      was = refusal n pt short many m.ring

      go : (b : Bool) → eqb was 0 ≡ b → cond b (cond (fits n qt m) 0 21) was ≡ cond b (cond (fits n pt m) 0 21) was
      go false h = refl
      go true h = ap (λ (t : Bool). cond t 0 21) (fits_same m ((accepted n pt short many m.ring).0 (eqb-true was 0 h)).ring)

  -- A call that takes it up answers the same.
  pub take_up_same : (short : Bool) (m : Image) (ds : List ℕ) → take_up_call n qt short m ds ≡ take_up_call n pt short m ds
  take_up_same short m ds =
      ap (λ (k : ℕ). cond (eqb k 0) (answer qt) (refused k)) (image_refusal_same short (too_many ds) m) ∙ go (eqb was 0) refl
    where
      was : ℕ
      was = image_refusal n pt short (too_many ds) m

      answer : (ℕ → Point) → Answer
      answer over = answer_from n over (length m.lines) (run_word n over place ds (resumed m))

      go : (b : Bool) → eqb was 0 ≡ b → cond b (answer qt) (refused was) ≡ cond b (answer pt) (refused was)
      go false h = refl
      go true h =
          let p = (image_accepted n pt short (too_many ds) m).0 (eqb-true was 0 h) in
          same.answers place ds (resumed m) (length m.lines) ((accepted n pt short (too_many ds) m.ring).0 p.0).ring

  -- And for every choice of the record that a pick takes the machine after the picks is the same.
  pub resumed_same : (w : ℕ → State → ℕ) (ds : List ℕ) (m : Image) → IsRing n m.ring → run_word n qt w ds (resumed m) ≡ run_word n pt w ds (resumed m)
  resumed_same w ds m ring = same.runs w ds (resumed m) ring
