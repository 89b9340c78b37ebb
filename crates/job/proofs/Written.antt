-- Laws of buffers of which a part is written: a table over the first entries, a text from a place on.
use mathlib.Core.Path.{◌≡◌, refl, sym, ap, ◌∙◌}
use mathlib.Core.List.{List, [], ◌∷◌, ◌++◌, append_assoc, map}
use Prim.Native.Nat.{ℕ, zero, suc, ◌+◌, ◌≤◌, ◌<◌}
use native.Mathlib.Numerals.{add-one}
use native.Mathlib.Omega.{arith}
use lib.ListN.{length, get_or, take, drop, set, length-append, length-drop, length-map, get_or-append}
use lib.Seq.{drop-cons, drop-drop, set_at, sets, sets-eq, length-sets, ext_get_or}
use Rattle.std.proofs.lemmas.List.{drop-take}
use Rattle.algebra.specs.Ranges.{up_from, up_from_length, table_at}
use Rattle.job.specs.Buffers.{over, put, Put}

-- ---- a table over the first entries
module _ {A : Type 0} where
  abbrev pub table : (ℕ → A) → ℕ → List A
  table f n = map f (up_from 0 n)

  pub length_table : (f : ℕ → A) (n : ℕ) → length (table f n) ≡ n
  length_table f n = length-map (up_from 0 n) f ∙ up_from_length 0 n

  last_of : (f : ℕ → A) (s n : ℕ) → map f (up_from s (suc n)) ≡ map f (up_from s n) ++ (f (s + n) ∷ [])
  last_of f s zero = ap (λ k. f k ∷ []) (omega arith)
  last_of f s (suc n) = ap (λ l. f s ∷ l) (last_of f (suc s) n ∙ ap (λ k. map f (up_from (suc s) n) ++ (f k ∷ [])) (omega arith))

  pub table_next : (f : ℕ → A) (n : ℕ) → table f (suc n) ≡ table f n ++ (f n ∷ [])
  table_next f n = last_of f 0 n ∙ ap (λ k. table f n ++ (f k ∷ [])) (omega arith)

  pub table_is : (f : ℕ → A) (l : List A) (d : A) (n : ℕ) → length l ≡ n → ((i : ℕ) → i < n → f i ≡ get_or l i d) → table f n ≡ l
  table_is f l d n e h =
      ext_get_or d (table f n) l (length_table f n ∙ sym e)
      (λ i k. let g : i < n = rw (length_table f n) at k in table_at f d 0 n i g ∙ ap f (omega arith) ∙ h i g)

  pub over_none : (l : List A) (f : ℕ → A) → over l f 0 ≡ l
  unfolding over
  over_none l f = refl

  pub length_over : (l : List A) (f : ℕ → A) (n : ℕ) → n ≤ length l → length (over l f n) ≡ length l
  unfolding over
  length_over l f n h = simp (length-append, length_table f n, length-drop) (omega arith)

  over_next : (l : List A) (f : ℕ → A) (n : ℕ) → n < length l → set (over l f n) n (f n) ≡ over l f (n + 1)
  unfolding over
  over_next l f n h =
      rw (add-one, drop-cons l n (f n) h, set_at (table f n) _ (drop (suc n) l) (f n) n (length_table f n))
      (sym (append_assoc (table f n) (f n ∷ []) (drop (suc n) l)) ∙ ap (λ t. t ++ drop (suc n) l) (sym (table_next f n)))

  -- a turn of a loop that writes one entry after the other, and its end
  pub over_step : (l : List A) (f : ℕ → A) {m : List A} {n : ℕ} {v : A} → m ≡ over l f n → n < length l → v ≡ f n → set m n v ≡ over l f (n + 1)
  over_step l f {m} {n} {v} e h g = rw (e, g) (over_next l f n h)

  -- written over a part from the start on, with what is behind that part
  pub over_front : (l : List A) (f : ℕ → A) {m : List A} {n k : ℕ} → m ≡ over (take n l) f k → k ≡ n → m ++ drop n l ≡ over l f n
  unfolding over
  over_front l f {m} {n} e h =
      let none : drop n (take n l) ≡ [] = ap (λ k. drop n (take k l)) (omega arith) ∙ drop-take n 0 l in
      ap (λ (t : List A). t ++ drop n l) (e ∙ ap (λ k. over (take n l) f k) h ∙ ap (λ (t : List A). table f n ++ t) none)
      ∙ append_assoc (table f n) [] (drop n l)

  pub over_at : (l : List A) (f : ℕ → A) (n i : ℕ) (d : A) → i < n → get_or (over l f n) i d ≡ f i
  unfolding over
  over_at l f n i d h =
      let g : i < length (table f n) = rw (length_table f n) h in
      get_or-append (table f n) (drop n l) d i g ∙ table_at f d 0 n i h ∙ ap f (omega arith)

-- ---- a text from a place on
pub put_is : (l : List ℕ) (i : ℕ) (t : List ℕ) → i + length t ≤ length l → put l i t ≡ take i l ++ t ++ drop (i + length t) l
unfolding put
put_is l i t h = sets-eq t l i h

pub length_put : (l : List ℕ) (i : ℕ) (t : List ℕ) → length (put l i t) ≡ length l
unfolding put
length_put l i t = length-sets l i t

pub put_none : (l : List ℕ) (i : ℕ) → put l i [] ≡ l
unfolding put
put_none l i = refl

sets_append : (l : List ℕ) (i : ℕ) (a b : List ℕ) → sets l i (a ++ b) ≡ sets (sets l i a) (i + length a) b
sets_append l i [] b = ap (λ k. sets l k b) (omega arith)
sets_append l i (v ∷ a) b = sets_append (set l i v) (suc i) a b ∙ ap (λ k. sets (sets (set l i v) (suc i) a) k b) (omega arith)

put_append : (l : List ℕ) (i : ℕ) (a b : List ℕ) → put l i (a ++ b) ≡ put (put l i a) (i + length a) b
unfolding put
put_append l i a b = sets_append l i a b

-- one writer after the other
pub put_then : {l m n : List ℕ} {i j k : ℕ} {a b : List ℕ} → Put l i a j m → Put m j b k n → Put l i (a ++ b) k n
put_then {l} {m} {n} {i} {j} {k} {a} {b} p q =
    record {
      next = omega (arith, p.next, q.next, length-append a b);
      text = q.text ∙ (λ t. put (p.text t) (p.next t) b) ∙ sym (put_append l i a b);
    }

pub put_empty : (l : List ℕ) (i : ℕ) → Put l i [] i l
put_empty l i = record { next = omega arith; text = sym (put_none l i) }

-- a text that is copied over the part from i on
pub put_part : (l t : List ℕ) (i k : ℕ) → k ≡ length t → i + length t ≤ length l → take i l ++ (t ++ drop k (drop i l)) ≡ put l i t
put_part l t i k e h = rw (e, drop-drop, put_is l i t h) (sym (append_assoc (take i l) t _) ∙ ap (λ j. take i l ++ t ++ drop j l) (omega arith))
