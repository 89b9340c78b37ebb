-- What is printed of a job's run that was taken up, beside what is printed of the run with all picks.
use Rattle.std.specs.Prelude.{◌≡◌, refl, Bool, true, false, cond, List, [], ◌∷◌, ◌++◌, ℕ, suc, ◌+◌, ◌≤◌, ◌<◌, length, get_or}
use Rattle.std.proofs.Common.{sym, ◌∙◌, ap, arith}
use Rattle.std.proofs.lemmas.List.{length-map}
use borrow.Author.Tests.{le-ltb}
use Rattle.algebra.specs.Counting.{one, count_p}
use Rattle.algebra.specs.Ranges.{up_from, up_from_length}
use Rattle.geometry.specs.Plane.{Point}
use Rattle.geometry.specs.Answers.{answered}
use Rattle.index_edge.specs.Edge.{Edge}
use Rattle.intersection_set.specs.Store.{Rec, no_rec, names}
use Rattle.intersection_set.specs.Lists.{tangle}
use Rattle.machine.specs.Answer.{Answer, refused, unfinished, delivered, too_many}
use Rattle.untangle.specs.Running.{state_after}
use Rattle.job.specs.Job.{point_count}
use Rattle.job.specs.Text.{loop_lines, stopped_lines}
use Rattle.resume.specs.Image.{take_up}
use Rattle.resume.specs.AgesAside.{Twin}
use Rattle.resume.specs.Continued.{later}
use Rattle.image.specs.Reading.{record_count, line_in, lines_in, read_image}
use Rattle.take_up.specs.TakenUp.{board_in, taking_call}
use Rattle.handover.specs.Handed.{moves_of}
use Rattle.tour.specs.Printed.{told, tangle_after, run_text, picks, board}
use Rattle.stopping.specs.Stopped.{stopped}
use Rattle.going_on.specs.Printed.{tangle_on, text_on}
use Rattle.going_on.proofs.Taken.{call_taken}
use Rattle.stopped_runs.specs.Onwards.{first, unstopped, Onwards}
use Rattle.stopped_runs.proofs.Inputs.{input_printed}
use Rattle.stopped_runs.proofs.Images.{answers, taken, ends, same_count, same_board}

-- ---- answers with more moves
told_ring : Answer → List ℕ
told_ring (refused k) = []
told_ring (unfinished r j k) = r
told_ring (delivered r j k) = r

told_moves : Answer → ℕ
told_moves (refused k) = 0
told_moves (unfinished r j k) = j
told_moves (delivered r j k) = j

told_count : Answer → ℕ
told_count (refused k) = k
told_count (unfinished r j k) = k
told_count (delivered r j k) = k

kind_of : Answer → ℕ
kind_of (refused k) = 0
kind_of (unfinished r j k) = 1
kind_of (delivered r j k) = 2

stopped_as : (g c : ℕ) (a : Answer) {l : List ℕ} {m k : ℕ} → later g c a ≡ unfinished l m k → (j : ℕ) × (m ≡ g + j) × (a ≡ unfinished l j k)
unfolding told_ring told_moves told_count kind_of
stopped_as g c (refused i) h = absurd (let z : ◌≡◌ {A = ℕ} 0 1 = ap kind_of h in omega arith)
stopped_as g c (unfinished r j i) h = (j, sym (ap told_moves h), λ t. unfinished (ap told_ring h t) j (ap told_count h t))
stopped_as g c (delivered r j i) h = absurd (let z : ◌≡◌ {A = ℕ} 2 1 = ap kind_of h in omega arith)

loop_as : (g c : ℕ) (a : Answer) {l : List ℕ} {m k : ℕ} → later g c a ≡ delivered l m k → (j : ℕ) × (i : ℕ) × (m ≡ g + j) × (a ≡ delivered l j i)
unfolding told_ring told_moves kind_of
loop_as g c (refused i) h = absurd (let z : ◌≡◌ {A = ℕ} 0 2 = ap kind_of h in omega arith)
loop_as g c (unfinished r j i) h = absurd (let z : ◌≡◌ {A = ℕ} 1 2 = ap kind_of h in omega arith)
loop_as g c (delivered r j i) h = (j, i, sym (ap told_moves h), λ t. delivered (ap told_ring h t) j i)

loop_count : (b : Bool) (f r l : List ℕ) (m k x j i : ℕ) → ◌≡◌ {A = Answer} (cond b (delivered f m k) (unfinished r m x)) (delivered l j i) → i ≡ k
unfolding told_count kind_of
loop_count true f r l m k x j i h = sym (ap told_count h)
loop_count false f r l m k x j i h = absurd (let z : ◌≡◌ {A = ℕ} 1 2 = ap kind_of h in omega arith)

-- ---- counts of records that are alike
count_alike : (p : Rec → Bool) (d d' : List Rec) → length d ≡ length d' → ((k : ℕ) → k < length d → p (get_or d k no_rec) ≡ p (get_or d' k no_rec)) → count_p p d ≡ count_p p d'
count_alike p [] [] e h = refl
count_alike p [] (y ∷ d') e h = absurd (omega arith)
count_alike p (x ∷ d) [] e h = absurd (omega arith)
count_alike p (x ∷ d) (y ∷ d') e h = λ i. one (h 0 (omega arith) i) + count_alike p d d' (omega arith) (λ k l. h (suc k) (omega (arith, l))) i

twin_count : (e : Edge) (d d' : List Rec) → Twin d d' → count_p (names e) d ≡ count_p (names e) d'
twin_count e d d' t = count_alike (names e) d d' t.count (λ k h i. names e (record { e0 = t.first k h i; e1 = t.second k h i; age = 0; slot = 0 }))

-- ---- a job
module _ (job img : List ℕ) (e : stopped job ≡ answered img) (ds : List ℕ) (most : length (picks job ++ ds) ≤ 1000000) where
  abbrev n : ℕ
  n = point_count job

  abbrev pt : ℕ → Point
  pt = board job

  abbrev cs : List ℕ
  cs = picks job

  few : too_many (cs ++ ds) ≡ false
  few = le-ltb 1000000 (length (cs ++ ds)) most

  -- the records of both name each edge as often
  as_often : (g : Edge) → tangle_on img ds g ≡ tangle_after n pt (cs ++ ds) g
  as_often g =
      (λ i. tangle g (state_after (same_count job img e i) (board_in img) (take_up (read_image img)) ds).store)
      ∙ sym (twin_count g _ _ (ends job img e ds few).records)

  stopped_text : (l : List ℕ) (m k : ℕ) → unstopped n pt cs ds img ≡ unfinished l m k → text_on img ds ≡ run_text n pt (cs ++ ds)
  unfolding text_on told
  stopped_text l m k h =
      let (j, mj, is) = stopped_as _ _ (taking_call img false ds) (sym (answers job img e ds few) ∙ h) in
      ap (told (board_in img) (tangle_on img ds)) is ∙ (λ t. stopped_lines (λ g. as_often g t) l k) ∙ sym (ap (told pt (tangle_after n pt (cs ++ ds))) h)

  -- what was taken up started with the image's records
  count_is : {l : List ℕ} {j i : ℕ} → taking_call img false ds ≡ delivered l j i → i ≡ record_count img
  count_is {l} {j} {i} h =
      loop_count _ _ _ l _ (length (lines_in img)) _ j i (sym (call_taken img ds (taken job img e ds few)) ∙ h)
      ∙ length-map (up_from 0 (record_count img)) (line_in img)
      ∙ up_from_length 0 (record_count img)

  loop_text : (l : List ℕ) (m c : ℕ) → unstopped n pt cs ds img ≡ delivered l m c
      → (j : ℕ) × (m ≡ moves_of n pt (first n pt cs ds img) cs + j) × (text_on img ds ≡ loop_lines pt l j (record_count img))
  unfolding text_on told
  loop_text l m c h =
      let (j, i, mj, is) = loop_as _ _ (taking_call img false ds) (sym (answers job img e ds few) ∙ h) in
      (j, mj, ap (told (board_in img) (tangle_on img ds)) is ∙ (λ t. loop_lines (same_board job img e t) l j (count_is is t)))

  -- A job's run that is stopped by its own picks, saved and taken up with the picks ds, all together few enough, goes on as the run with all of them.
  pub stopped_onwards : Onwards n pt cs ds img
  stopped_onwards =
      record {
        answers = answers job img e ds few;
        same_text = λ l m k h. input_printed ds img ∙ stopped_text l m k h;
        same_loop = λ l m c h. (let (j, mj, text) = loop_text l m c h in (j, mj, input_printed ds img ∙ text));
      }
