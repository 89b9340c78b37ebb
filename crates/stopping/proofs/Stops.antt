-- What is answered of a run over a job's points: its refusal, or the image of what it leaves.
use Rattle.std.specs.Prelude.{◌≡◌, ◌≢◌, refl, false, cond, List, [], ◌∷◌, ℕ, suc, ◌-◌, ◌*◌, ◌≤◌, eqb, length, get_or, take, ℤ, Result, Ok, Err, IfOk}
use Rattle.std.proofs.Common.{sym, ◌∙◌, ap, subst, arith}
use Rattle.std.proofs.lemmas.List.{length-map}
use borrow.Author.Tests.{eq-eqb, ne_eqb}
use Rattle.algebra.specs.Cases.{both, eq_cases}
use Rattle.algebra.specs.Ranges.{up_from}
use Rattle.algebra.specs.Size.{mul_bound}
use Rattle.refusal.specs.declared.Refusal.{Refusal}
use Rattle.refusal.specs.Number.{number_of}
use Rattle.geometry.specs.Plane.{Point}
use Rattle.geometry.specs.Lent.{points, Lent}
use Rattle.geometry.specs.Answers.{Answer, refused, answered, told}
use Rattle.intersection_set.specs.Store.{Rec}
use Rattle.machine.specs.Machine.{State, begin, after, place}
use Rattle.machine.specs.Answer.{Answer as RunAnswer, refused as run_refused, unfinished, delivered, refusal, too_many, call, answer}
use Rattle.machine.specs.Onward.{Ready}
use Rattle.machine.proofs.Accepted.{Accepted, accepted}
use Rattle.machine.proofs.Ready.{begin_ready}
use Rattle.untangle.specs.Running.{state_after}
use Rattle.two_opt.specs.Entry.{Loan, short_of, Holding, Entry}
use Rattle.two_opt.specs.Lent.{sizes, Enough}
use Rattle.job.specs.Buffers.{put}
use Rattle.job.proofs.Written.{length_put}
use Rattle.resume.specs.Image.{image_of, line_of}
use Rattle.image.specs.Bytes.{image_length, image_bytes}
use Rattle.image.proofs.ReadBack.{length_image}
use Rattle.save.specs.Saved.{records_of, saving_refusal, Saving}
use Rattle.tour.proofs.Room.{Roomy, roomy}
use Rattle.stopping.specs.Stopped.{left_of, left_by, stopped_run, Stopping}
use Rattle.handover.proofs.Left.{left_savable}
use Rattle.handover.proofs.Saves.{left_few, left_records, left_accepted}

-- ---- the buffers
abbrev pub full : List ℕ
full = 48 ∷ 48 ∷ 2256 ∷ 2256 ∷ 2256 ∷ 2256 ∷ 2256 ∷ 2256 ∷ 2256 ∷ 2256 ∷ 380 ∷ []

pub full_enough : (n : ℕ) (l : Loan) → n ≤ 48 → sizes l ≡ full → Enough n l
full_enough n l few e =
    let size : n * (n - 1) ≤ 48 * 47 = mul_bound n (n - 1) 48 47 few (omega (arith, few)) in
    record {
      in_ring = omega (arith, few, ap (λ s. get_or s 0 0) e);
      in_index = omega (arith, few, ap (λ s. get_or s 1 0) e);
      in_heads = omega (arith, size, ap (λ s. get_or s 2 0) e);
      in_ends = omega (arith, size, ap (λ s. get_or s 3 0) e);
      in_links = omega (arith, size, ap (λ s. get_or s 4 0) e);
      in_ages = omega (arith, size, ap (λ s. get_or s 5 0) e);
      in_dense = omega (arith, size, ap (λ s. get_or s 6 0) e);
      in_reverse = omega (arith, size, ap (λ s. get_or s 7 0) e);
      in_free = omega (arith, size, ap (λ s. get_or s 8 0) e);
      in_tangles = omega (arith, size, ap (λ s. get_or s 9 0) e);
      in_tree = omega (arith, few, ap (λ s. get_or s 10 0) e);
    }

-- ---- answers
is_refused : Answer ℕ → ℕ
is_refused (refused k) = 1
is_refused (answered v) = 0

value_of : Answer ℕ → ℕ
value_of (refused k) = 0
value_of (answered v) = v

apart : (k v : ℕ) → ◌≡◌ {A = Answer ℕ} (refused k) (answered v) → ⊥
unfolding is_refused
apart k v h = (let z : ◌≡◌ {A = ℕ} 1 0 = ap is_refused h in omega arith)

same_value : (v w : ℕ) → ◌≡◌ {A = Answer ℕ} (answered v) (answered w) → v ≡ w
unfolding value_of
same_value v w h = ap value_of h

value_within : (q : Result ℕ Refusal) (v m : ℕ) → told q ≡ answered v → v ≤ m → IfOk q (λ w. w ≤ m)
value_within (Ok w) v m e h = omega (arith, same_value w v e, h)
value_within (Err r) v m e h = tt

-- where a loop is delivered no record is left
count_left : (d : List Rec) (r l : List ℕ) (m c : ℕ) → left_of (cond (eqb (length d) 0) (delivered r m c) (unfinished l m (length d))) ≡ answered (length d)
count_left [] r l m c = refl
count_left (x ∷ d) r l m c = rw (ne_eqb (suc (length d)) 0 (λ z. omega arith)) refl

module _ (n : ℕ) (x y : List ℤ) (cs : List ℕ) (was is : Loan) (a : RunAnswer) (e : Entry n x y (up_from 0 n) cs was is a) (lent : Lent n x y) (few : n ≤ 48) (room : Roomy 48 was) where
  abbrev r : List ℕ
  r = up_from 0 n

  abbrev pt : ℕ → Point
  pt = points x y

  abbrev k : ℕ
  k = refusal n pt false (too_many cs) r

  long : short_of n x y was ≡ false
  long = roomy 48 n x y was lent.lx lent.ly few room

  called : a ≡ call n pt false r cs
  called = e.answers ∙ ap (λ s. call n pt s r cs) long

  left_none : k ≢ 0 → left_of a ≡ refused k
  left_none h = ap left_of (called ∙ ap (λ b. cond b (answer n pt r (after n pt place cs r)) (run_refused k)) (ne_eqb k 0 h))

  left_some : k ≡ 0 → left_of a ≡ answered (length (after n pt place cs r).now.store.dense)
  left_some h =
      ap left_of (called ∙ ap (λ b. cond b (answer n pt r (after n pt place cs r)) (run_refused k)) (eq-eqb k 0 h))
      ∙ count_left (after n pt place cs r).now.store.dense _ _ _ _

  -- a refused run
  pub refused_stop : (q : Refusal) (out : List ℕ) → refused (number_of q) ≡ left_of a → Stopping (stopped_run n x y cs) out (Err q) out
  unfolding stopped_run
  refused_stop q out h =
      both (eq_cases k 0)
      (λ z. absurd (apart (number_of q) _ (h ∙ left_some z.0)))
      (λ z. rw (ne_eqb k 0 z.0) (record { answers = h ∙ left_none z.0; bytes = refl }))

  abbrev s : State
  s = (begin n pt r).now

  abbrev d : List Rec
  d = (state_after n pt s cs).store.dense

  -- any other is saved
  module _ (enough : Enough n is) (live : ℕ) (out : List ℕ) (big : 27580 ≤ length out) (h : answered live ≡ left_of a) {q : Result ℕ Refusal} {out' : List ℕ}
      (saving : Saving n x y is.ring live is.records.dense is.records.ends is.records.ages out q out') where
    module _ (z : k ≡ 0) where
      ok : Accepted n pt false (too_many cs) r
      ok = (accepted n pt false (too_many cs) r).0 z

      ready : Ready n pt s
      ready = begin_ready n pt ok.board r ok.ring

      ended : Holding n x y r cs is
      ended = e.ended (ap (λ b. refusal n pt b (too_many cs) r) long ∙ z)

      fits : image_length n (length d) ≤ length out
      fits =
          let size : n * (n - 1) ≤ 48 * 47 = mul_bound n (n - 1) 48 47 few (omega (arith, few)) in
          omega (arith, few, big, size, left_few n x y s cs is false (too_many cs) r ok ready ended enough)

      none : saving_refusal n x y is.ring (length d) is.records.dense is.records.ends is.records.ages out ≡ 0
      none = left_accepted n x y s cs is false (too_many cs) r ok ready ended enough out lent.lx lent.ly fits

      size_is : length (image_bytes n x y (left_by n pt cs)) ≡ image_length n (length d)
      unfolding left_by
      size_is = length_image n x y (left_by n pt cs) (left_savable n pt ok.board s ready cs).ring.len ∙ ap (image_length n) (length-map d (line_of d))

      written : Stopping (answered (image_bytes n x y (left_by n pt cs))) out q out'
      unfolding left_by
      written =
          let live_is : live ≡ length d = same_value live (length d) (h ∙ left_some z) in
          let sv = subst (λ l. Saving n x y is.ring l is.records.dense is.records.ends is.records.ages out q out') live_is saving in
          let m : image_of (take n is.ring) (records_of (length d) is.records.dense is.records.ends is.records.ages) ≡ left_by n pt cs
          = λ i. image_of (ended.same_ring i) (left_records n x y s cs is false (too_many cs) r ok ready ended enough i) in
          record { answers = (rw none at sv.answers) ∙ ap answered (sym size_is); bytes = (rw none at sv.bytes) ∙ ap (λ m. put out 0 (image_bytes n x y m)) m }

      within : IfOk q (λ v. v ≤ length out')
      within = value_within q (length (image_bytes n x y (left_by n pt cs))) (length out') written.answers (omega (arith, fits, size_is, ap length written.bytes, length_put out 0 (image_bytes n x y (left_by n pt cs))))

    pub saved_stop : Stopping (stopped_run n x y cs) out q out'
    unfolding stopped_run
    saved_stop = both (eq_cases k 0) (λ z. rw (eq-eqb k 0 z.0) (written z.0)) (λ z. absurd (apart k live (sym (left_none z.0) ∙ sym h)))

    pub saved_within : IfOk q (λ v. v ≤ length out')
    saved_within = both (eq_cases k 0) (λ z. within z.0) (λ z. absurd (apart k live (sym (left_none z.0) ∙ sym h)))
