-- Counting the elements of a list that pass a test. What a list holds, how often and where is said by counts.
use Rattle.std.specs.Prelude.{◌≡◌, refl, Bool, true, false, not, ◌&&◌, cond, List, [], ◌∷◌, ◌++◌, map, ℕ, zero, suc, ◌+◌, ◌≤◌, ◌<◌, length, get_or, take, set}
use Rattle.std.proofs.Common.{sym, ap, subst, ◌∙◌, arith, length-append, take-suc}
use Rattle.std.proofs.Math.Seq.{take-length}

-- 1 where a test holds, else 0
abbrev pub one : Bool → ℕ
one b = cond b 1 0

pub one_le : (a b : Bool) → (a ≡ true → b ≡ true) → one a ≤ one b
one_le true b h = omega (arith, ap one (h refl))
one_le false b h = omega arith

one_split : (a b : Bool) → one a ≡ one (a && b) + one (a && not b)
one_split true true = refl
one_split true false = refl
one_split false b = refl

module _ {A : Type 0} where
  abbrev pub count_p : (A → Bool) → List A → ℕ
  count_p p [] = 0
  count_p p (x ∷ l) = one (p x) + count_p p l

  pub count_append : (p : A → Bool) (a b : List A) → count_p p (a ++ b) ≡ count_p p a + count_p p b
  count_append p [] b = omega arith
  count_append p (x ∷ a) b = omega (arith, count_append p a b)

  pub count_snoc : (p : A → Bool) (a : List A) (x : A) → count_p p (a ++ (x ∷ [])) ≡ count_p p a + one (p x)
  count_snoc p a x = omega (arith, count_append p a (x ∷ []))

  -- two tests that agree
  pub count_same : (p q : A → Bool) → ((x : A) → p x ≡ q x) → (l : List A) → count_p p l ≡ count_p q l
  count_same p q h [] = refl
  count_same p q h (x ∷ l) = omega (arith, ap one (h x), count_same p q h l)

  pub count_length : (l : List A) → count_p (λ x. true) l ≡ length l
  count_length [] = refl
  count_length (x ∷ l) = omega (arith, count_length l)

  pub count_none : (l : List A) → count_p (λ x. false) l ≡ 0
  count_none [] = refl
  count_none (x ∷ l) = omega (arith, count_none l)

  pub count_le : (p q : A → Bool) → ((x : A) → p x ≡ true → q x ≡ true) → (l : List A) → count_p p l ≤ count_p q l
  count_le p q h [] = omega arith
  count_le p q h (x ∷ l) = omega (arith, one_le (p x) (q x) (h x), count_le p q h l)

  -- what is counted by p is counted by q or by its negation
  pub count_split : (p q : A → Bool) (l : List A) → count_p p l ≡ count_p (λ x. p x && q x) l + count_p (λ x. p x && not (q x)) l
  count_split p q [] = refl
  count_split p q (x ∷ l) = omega (arith, one_split (p x) (q x), count_split p q l)

  pub count_two : (p q r : A → Bool) → ((x : A) → one (p x) ≡ one (q x) + one (r x)) → (l : List A) → count_p p l ≡ count_p q l + count_p r l
  count_two p q r h [] = refl
  count_two p q r h (x ∷ l) = omega (arith, h x, count_two p q r h l)

  pub count_off : (p : A → Bool) → ((x : A) → p x ≡ false) → (l : List A) → count_p p l ≡ 0
  count_off p h [] = refl
  count_off p h (x ∷ l) = omega (arith, ap one (h x), count_off p h l)

  pub count_set : (p : A → Bool) (l : List A) (k : ℕ) (v d : A) → k < length l → count_p p (set l k v) + one (p (get_or l k d)) ≡ count_p p l + one (p v)
  count_set p [] k v d h = omega arith
  count_set p (x ∷ l) zero v d h = omega arith
  count_set p (x ∷ l) (suc k) v d h = let i : k < length l = omega arith in omega (arith, count_set p l k v d i)

  -- the last element taken off
  pub count_front : (p : A → Bool) (l : List A) (j : ℕ) (d : A) → length l ≡ suc j → count_p p (take j l) + one (p (get_or l j d)) ≡ count_p p l
  count_front p l j d h =
      let i : j < length l = omega arith in
      let e : take (suc j) l ≡ l = subst (λ (n : ℕ). take n l ≡ l) h (take-length l) in
      omega (arith, count_snoc p (take j l) (get_or l j d), ap (count_p p) (sym (take-suc l j d i) ∙ e))

  -- an element that passes is counted
  pub count_at : (p : A → Bool) (l : List A) (k : ℕ) (d : A) → k < length l → p (get_or l k d) ≡ true → 1 ≤ count_p p l
  count_at p [] k d h t = omega arith
  count_at p (x ∷ l) zero d h t = omega (arith, ap one t)
  count_at p (x ∷ l) (suc k) d h t = let i : k < length l = omega arith in omega (arith, count_at p l k d i t)

  -- and two at different places are two
  pub count_at_two : (p : A → Bool) (l : List A) (j k : ℕ) (d : A) → j < k → k < length l → p (get_or l j d) ≡ true → p (get_or l k d) ≡ true → 2 ≤ count_p p l
  count_at_two p [] j k d i h t u = omega arith
  count_at_two p (x ∷ l) j zero d i h t u = omega arith
  count_at_two p (x ∷ l) zero (suc k) d i h t u = omega (arith, ap one t, count_at p l k d (omega arith) u)
  count_at_two p (x ∷ l) (suc j) (suc k) d i h t u = omega (arith, count_at_two p l j k d (omega arith) (omega arith) t u)

  pub length_snoc : (l : List A) (x : A) → length (l ++ (x ∷ [])) ≡ suc (length l)
  length_snoc l x = length-append l (x ∷ []) ∙ omega arith

  -- what is counted is somewhere
  pub count_split_at : (p : A → Bool) (l : List A) → 1 ≤ count_p p l → (a : List A) × (x : A) × (b : List A) × (l ≡ a ++ x ∷ b) × (p x ≡ true)
  count_split_at p [] h = absurd (omega arith)
  count_split_at p (x ∷ l) h = go (p x) refl h (count_split_at p l)
    where
      go : (t : Bool) → p x ≡ t → 1 ≤ one t + count_p p l → (1 ≤ count_p p l → (a : List A) × (y : A) × (b : List A) × (l ≡ a ++ y ∷ b) × (p y ≡ true))
          → (a : List A) × (y : A) × (b : List A) × (x ∷ l ≡ a ++ y ∷ b) × (p y ≡ true)
      go true e h k = ([], x, l, refl, e)
      go false e h k = let i : (a : List A) × (y : A) × (b : List A) × (l ≡ a ++ y ∷ b) × (p y ≡ true) = k (omega arith) in (x ∷ i.0, i.1, i.2, ap (λ (m : List A). x ∷ m) i.3, i.4)

  pub count_find : (p : A → Bool) (l : List A) (d : A) → 1 ≤ count_p p l → (k : ℕ) × (k < length l) × (p (get_or l k d) ≡ true)
  count_find p [] d h = absurd (omega arith)
  count_find p (x ∷ l) d h = go (p x) refl h (count_find p l d)
    where
      go : (t : Bool) → p x ≡ t → 1 ≤ one t + count_p p l → (1 ≤ count_p p l → (k : ℕ) × (k < length l) × (p (get_or l k d) ≡ true)) → (k : ℕ) × (k < suc (length l)) × (p (get_or (x ∷ l) k d) ≡ true)
      go true e h k = (0, omega arith, e)
      go false e h k = let i : (k : ℕ) × (k < length l) × (p (get_or l k d) ≡ true) = k (omega arith) in (suc i.0, omega arith, i.2)

  pub count_zero : (p : A → Bool) (l : List A) (d : A) → ((k : ℕ) → k < length l → p (get_or l k d) ≡ false) → count_p p l ≡ 0
  count_zero p [] d h = refl
  count_zero p (x ∷ l) d h = omega (arith, ap one (h 0 (omega arith)), count_zero p l d (λ k u. h (suc k) (omega arith)))

pub count_map : {A B : Type 0} (p : B → Bool) (f : A → B) (l : List A) → count_p p (map f l) ≡ count_p (λ x. p (f x)) l
count_map p f [] = refl
count_map p f (x ∷ l) = omega (arith, count_map p f l)
