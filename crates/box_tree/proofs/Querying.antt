-- The parts of a lent buffer that a query hands on hold the halves of its tree, and what they find, one after the other, is what the whole finds.
use Rattle.std.specs.Prelude.{◌≡◌, refl, false, cond, List, [], ◌∷◌, ◌++◌, ℕ, ◌+◌, ◌-◌, ◌*◌, ◌/◌, ◌<◌, ℤ, length, take}
use Rattle.std.proofs.Common.{sym, ◌∙◌, ap, arith, append_assoc, length-append}
use Rattle.std.proofs.lemmas.List.{append-nil}
use Rattle.box_tree.specs.Boxes.{Bounds, share}
use Rattle.box_tree.specs.Tree.{buffer, read_box}
use Rattle.box_tree.specs.Within.{Appended, Asked, Finds}
use Rattle.box_tree.proofs.Growing.{top_one, top_is, buffer_size}
use Rattle.box_tree.proofs.Parts.{first_part, second_part, second_to_end, first_half, second_half}
use Rattle.box_tree.proofs.Pruning.{near_halves, near_few, pruned}

appended_none : (l : List ℕ) (c : ℕ) → Appended l c l c []
appended_none l c = record { list = sym (append-nil (take c l)); count = omega arith; size = refl }

appended_then : {l m n v w : List ℕ} {c d r : ℕ} → Appended l c m d v → Appended m d n r w → Appended l c n r (v ++ w)
appended_then {l} {v = v} {w = w} {c = c} p q = record {
  list = q.list ∙ ap (λ s. s ++ w) p.list ∙ append_assoc (take c l) v w;
  count = omega (arith, p.count, q.count, length-append v w);
  size = q.size ∙ p.size;
}

-- A position is found where the test of the box that is read says so.
pub finds_one : (b : Bounds) (i : ℕ) {c r : ℕ} {t : List ℤ} {l m : List ℕ} → Appended l c m r (cond (share b (read_box t)) (i ∷ []) []) →
    Finds b i 1 t l c m r
finds_one b i p f e = rw (top_is f i 1 (omega arith) e ∙ top_one f i) at p

module _ {i k c : ℕ} {t : List ℤ} {l : List ℕ} (a : Asked i k t l c) where
  pub asked_size : length t + 4 ≡ 8 * k
  asked_size = let (f, e) = a.held in rw e (buffer_size f i k a.some)

  -- Where the box of all positions shares no place, nothing is found.
  pub finds_none : (b : Bounds) → share b (read_box t) ≡ false → Finds b i k t l c l c
  finds_none b s f e = rw (pruned b f i k a.some (rw (top_is f i k a.some e) at s)) (appended_none l c)

  module _ (more : 1 < k) where
    second_held : (f : ℕ → Bounds) → t ≡ buffer f i k → second_part k t ≡ buffer f (i + k / 2) (k - k / 2)
    second_held f e = second_to_end k t ∙ second_half f i k more e

    pub asked_first : Asked i (k / 2) (first_part k t) l c
    asked_first = let (f, e) = a.held in record { some = omega arith; short = omega arith; room = omega arith; held = (f, first_half f i k more e) }

    module _ (b : Bounds) {m : List ℕ} {d : ℕ} (p : Finds b i (k / 2) (first_part k t) l c m d) where
      -- At most as many as the first half has positions were appended, so there is room for those of the second.
      pub asked_second : Asked (i + k / 2) (k - k / 2) (second_part k t) m d
      asked_second =
          let (f, e) = a.held in
          let g = p f (first_half f i k more e) in
          record { some = omega arith; short = omega arith; room = omega (arith, near_few b f i (k / 2)); held = (f, second_held f e) }

      pub finds_halves : {n : List ℕ} {r : ℕ} → Finds b (i + k / 2) (k - k / 2) (second_part k t) m d n r → Finds b i k t l c n r
      finds_halves q f e = rw (near_halves b f i k) (appended_then (p f (first_half f i k more e)) (q f (second_held f e)))
