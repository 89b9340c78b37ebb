-- Pushed in the order of ages, the records of an image take the slots that wait for them.
use mathlib.Core.Path.{◌≡◌, refl, sym, ap, subst, subst⁻¹, ◌∙◌}
use mathlib.Core.Bool.{Bool, true, cond}
use mathlib.Core.List.{List, [], ◌∷◌, ◌++◌}
use Prim.Native.Nat.{ℕ, zero, suc, ◌+◌, ◌-◌, ◌*◌, ◌≤◌, ◌<◌}
use native.Mathlib.Omega.{arith}
use borrow.Author.Tests.{eqb-true, eqb-false, eq-eqb, le-ltb}
use lib.Dec.{eqb, ltb}
use lib.ListN.{length, get_or, set, take, drop, length-map, length-drop, get_or-map}
use lib.Seq.{take-suc, drop-cons, drop-length, take-length, length-take-le, get_or-set_same, get_or-set_other}
use Rattle.algebra.specs.Cases.{both, true_or_false}
use Rattle.algebra.specs.Counting.{one, one_le, count_p, count_at_two, count_map}
use Rattle.index_edge.specs.Edge.{Edge, lt_edge}
use Rattle.index_edge.proofs.Edges.{lt_edge_diff}
use Rattle.intersection_set.specs.Store.{Rec, Store, no_rec, rec_for, slot_for, rest, push}
use Rattle.intersection_set.specs.Numbered.{Ages}
use Rattle.intersection_set.specs.Lists.{slot_of}
use Rattle.intersection_set.specs.Pool.{Pool, Buffers, lesser, greater}
use Rattle.intersection_set.specs.Within.{Proper, Room, PushOk}
use Rattle.intersection_set.specs.Holds.{Each, Stack, Holds, MayPush}
use Rattle.intersection_set.specs.Filling.{EachSlot, Shuffled, waiting, reordered}
use Rattle.intersection_set.proofs.Filling.{same_length, each_shuffled}
use Rattle.intersection_set.proofs.Lengths.{cap_small}
use Rattle.intersection_set.proofs.Pushing.{push_allowed}
use Rattle.resume.specs.Image.{Line, slotted, taken_up}
use Rattle.resume.specs.AgesAside.{age_at}
use Rattle.resume.proofs.Renumbering.{slotted_length}
use Rattle.resume.proofs.BackAgain.{ages_below}
use Rattle.resume.proofs.Images.{fit_ages, slot_count}
use Rattle.refill.specs.Filling.{no_line, line_at, SoundLine, Fills, by_age, slots_by_age, filled}
use Rattle.refill.proofs.Rising.{rising_shuffled, age_place}

-- ---- a list as a stack: its first entry at the end
stack_of : (q l : List ℕ) → ((j : ℕ) → j < length l → get_or q (length l - 1 - j) 0 ≡ get_or l j 0) → Stack q l
stack_of q [] h = tt
stack_of q (a ∷ l) h =
    let here = ap (λ (k : ℕ). get_or q k 0) (omega arith) ∙ h 0 (omega arith) in
    (here, stack_of q l (λ j i. ap (λ (k : ℕ). get_or q k 0) (omega arith) ∙ h (suc j) (omega arith)))

-- what is lent has the same room once the stack is written
pub refreed : {n : ℕ} {b : Buffers} {f : List ℕ} → length f ≡ length b.free → Room n b → Room n (record b { free = f })
refreed e z =
    record {
      in_heads = z.in_heads;
      in_ends = z.in_ends;
      in_links = z.in_links;
      in_ages = z.in_ages;
      in_dense = z.in_dense;
      in_reverse = z.in_reverse;
      in_free = e ∙ z.in_free;
      in_tangles = z.in_tangles;
    }

-- ---- the record that the line at its slot becomes
abbrev pub rec_of : ℕ → Line → Rec
rec_of i l = record { e0 = l.e0; e1 = l.e1; age = l.age; slot = i }

abbrev Becomes : List Line → Rec → Type 0
Becomes ls r = (r.slot < length ls) × (r ≡ rec_of r.slot (line_at ls r.slot))

slotted_at : (i : ℕ) (ls : List Line) (k : ℕ) → k < length ls → get_or (slotted i ls) k no_rec ≡ rec_of (i + k) (line_at ls k)
slotted_at i [] k h = absurd (omega arith)
slotted_at i (l ∷ ls) zero h = ap (λ (j : ℕ). rec_of j l) (let z : i ≡ i + 0 = omega arith in z)
slotted_at i (l ∷ ls) (suc k) h =
    slotted_at (suc i) ls k (omega arith)
    ∙ ap (λ (j : ℕ). rec_of j (line_at ls k)) (let z : suc i + k ≡ i + suc k = omega arith in z)

pub slotted_is : (ls : List Line) (k : ℕ) → k < length ls → get_or (slotted 0 ls) k no_rec ≡ rec_of k (line_at ls k)
slotted_is ls k h = slotted_at 0 ls k h ∙ ap (λ (j : ℕ). rec_of j (line_at ls k)) (let z : 0 + k ≡ k = omega arith in z)

-- The slots of the first i lines are in the stack, each as far from the end of the count as its age says.
abbrev pub Stacked : List Line → List ℕ → ℕ → Type 0
Stacked ls q i = (j : ℕ) → j < i → get_or q (length ls - 1 - (line_at ls j).age) 0 ≡ j

module _ (n : ℕ) (ls : List Line) (fills : Fills n ls) where
  len : length (by_age ls) ≡ length ls
  len = same_length (slotted 0 ls) (by_age ls) (rising_shuffled (slotted 0 ls)) ∙ slotted_length 0 ls

  slots_len : length (slots_by_age ls) ≡ length ls
  slots_len = length-map (by_age ls) slot_of ∙ len

  -- the record at a place has that age, and is what the line at its slot becomes
  aged : (j : ℕ) → j < length (by_age ls) → age_at (by_age ls) j ≡ j
  aged = age_place (slotted 0 ls) (subst⁻¹ (Ages (slotted 0 ls)) (slotted_length 0 ls) (fit_ages ls fills.ages))

  becomes : Each (Becomes ls) (by_age ls)
  becomes =
      each_shuffled (slotted 0 ls) (by_age ls) (rising_shuffled (slotted 0 ls)) (Becomes ls)
      (λ j h. let i : j < length ls = omega (arith, slotted_length 0 ls) in subst⁻¹ (Becomes ls) (slotted_is ls j i) (i, refl))

  -- ---- the slots by age
  each_slot : EachSlot (slots_by_age ls)
  each_slot k =
      count_map (eqb k) slot_of (by_age ls)
      ∙ rising_shuffled (slotted 0 ls) (λ r. eqb k r.slot)
      ∙ omega (
        arith,
        slot_count k 0 ls,
        ap one (le-ltb k 0 (omega arith)),
        ap (λ (j : ℕ). one (ltb k j)) (let z : 0 + length ls ≡ length (slots_by_age ls) = omega (arith, slots_len) in z),
      )

  -- ---- the stack of slots
  pub age_below : (i : ℕ) → i < length ls → (line_at ls i).age < length ls
  age_below i h =
      let here : age_at (slotted 0 ls) i ≡ (line_at ls i).age = ap (λ (x : Rec). x.age) (slotted_is ls i h) in
      omega (arith, here, ages_below (slotted 0 ls) (length ls) (fit_ages ls fills.ages) i (omega (arith, h, slotted_length 0 ls)))

  ages_apart : (j i : ℕ) → j < i → i < length ls → (line_at ls j).age ≡ (line_at ls i).age → ⊥
  ages_apart j i l h e =
      let a : ℕ = (line_at ls i).age in
      omega (
        arith,
        fills.ages a,
        one_le (ltb a (length ls)) true (λ _. refl),
        count_at_two (λ x. eqb a x.age) ls j i no_line l h (eq-eqb a (line_at ls j).age (sym e)) (eq-eqb a a refl),
      )

  pub stack_more : (q : List ℕ) (i : ℕ) → i < length ls → length ls ≤ length q → Stacked ls q i
      → Stacked ls (set q (length ls - 1 - (line_at ls i).age) i) (i + 1)
  stack_more q i h room s j l =
      let at : ℕ = length ls - 1 - (line_at ls i).age in
      both (true_or_false (eqb j i))
      (λ u.
      let e : j ≡ i = eqb-true j i u in
      ap (λ (k : ℕ). get_or (set q at i) (length ls - 1 - (line_at ls k).age) 0) e ∙ get_or-set_same q at i 0 (omega arith) ∙ sym e)
      (λ u.
      let k : j < i = omega (arith, l, eqb-false j i u) in
      get_or-set_other q at (length ls - 1 - (line_at ls j).age) i 0 (λ e. ages_apart j i k h (omega (arith, e, age_below i h, age_below j (omega arith))))
      ∙ s j k)

  -- all of them: a stack by age
  pub stacked : (q : List ℕ) → Stacked ls q (length ls) → Stack q (slots_by_age ls)
  stacked q h = stack_of q (slots_by_age ls) (λ j i. at j (omega (arith, i, slots_len, len)))
    where
      at : (j : ℕ) → j < length (by_age ls) → get_or q (length (slots_by_age ls) - 1 - j) 0 ≡ get_or (slots_by_age ls) j 0
      at j i =
          let r : Rec = get_or (by_age ls) j no_rec in
          let (inside, is) = becomes j i in
          let age : (line_at ls r.slot).age ≡ j = ap (λ (x : Rec). x.age) (sym is) ∙ aged j i in
          ap (λ (k : ℕ). get_or q k 0) (omega (arith, slots_len, age)) ∙ h r.slot inside ∙ sym (get_or-map slot_of (by_age ls) j no_rec)

  -- ---- a push
  module _ (i : ℕ) (h : i < length ls) where
    abbrev pub r : Rec
    r = get_or (by_age ls) i no_rec

    in_ages : i < length (by_age ls)
    in_ages = omega (arith, h, len)

    line_is : r ≡ rec_of r.slot (line_at ls r.slot)
    line_is = (becomes i in_ages).1

    sound : SoundLine n (line_at ls r.slot)
    sound = fills.sound r.slot (becomes i in_ages).0

    ordered : lt_edge r.e0 r.e1 ≡ true
    ordered = subst⁻¹ (λ (x : Rec). lt_edge x.e0 x.e1 ≡ true) line_is sound.ordered

    next_free : drop i (slots_by_age ls) ≡ r.slot ∷ drop (suc i) (slots_by_age ls)
    next_free =
        drop-cons (slots_by_age ls) i 0 (omega (arith, h, slots_len))
        ∙ ap (λ (k : ℕ). k ∷ drop (suc i) (slots_by_age ls)) (get_or-map slot_of (by_age ls) i no_rec)

    made : rec_for r.e0 r.e1 i r.slot ≡ r
    made =
        ap (λ (t : Bool). record { e0 = cond t r.e0 r.e1; e1 = cond t r.e1 r.e0; age = i; slot = r.slot }) ordered
        ∙ ap (λ (a : ℕ). record { e0 = r.e0; e1 = r.e1; age = a; slot = r.slot }) (sym (aged i in_ages))

    -- The next record by age is pushed into the slot that comes next.
    pub next_pushed : push r.e0 r.e1 (filled ls i) ≡ filled ls (i + 1)
    next_pushed =
        ap (λ (f : List ℕ). record { dense = sooner ++ (rec_for r.e0 r.e1 i (slot_for f (length sooner)) ∷ []); pushes = suc i; free = rest f }) next_free
        ∙ (λ t. record { dense = longer t; pushes = suc i; free = drop (suc i) (slots_by_age ls) })
        ∙ ap (filled ls) (omega arith)
      where
        sooner : List Rec
        sooner = take i (by_age ls)

        longer : take i (by_age ls) ++ (rec_for r.e0 r.e1 i r.slot ∷ []) ≡ take (suc i) (by_age ls)
        longer = ap (λ (x : Rec). take i (by_age ls) ++ (x ∷ [])) made ∙ sym (take-suc (by_age ls) i no_rec in_ages)

    pub next_may : MayPush n r.e0 r.e1 (filled ls i)
    next_may =
        record {
          first = subst⁻¹ (λ (x : Rec). Proper n x.e0) line_is sound.first;
          second = subst⁻¹ (λ (x : Rec). Proper n x.e1) line_is sound.second;
          differ = lt_edge_diff r.e0 r.e1 ordered;
          room = omega (arith, length-take-le i (by_age ls) (omega (arith, h, len)), h, fills.room);
          young = omega (arith, h, fills.room, cap_small fills.small);
        }

    -- in buffers that hold what was pushed before
    module _ (p : Pool) (held : Holds n p (filled ls i)) where
      freed : p.counts.freed ≡ suc (length (drop (suc i) (slots_by_age ls)))
      freed = held.stored.freed ∙ ap length next_free

      -- its slot is the one freed last
      pub has_freed : (0 < p.counts.freed) × (p.counts.freed ≤ length p.free)
      has_freed =
          (omega (arith, freed), omega (arith, held.stored.freed, length-drop i (slots_by_age ls), slots_len, fills.room, held.stored.sizes.in_free))

      pub top_slot : {x : ℕ} → x ≡ get_or p.free (p.counts.freed - 1) 0 → x ≡ r.slot
      top_slot e = e ∙ ap (λ (k : ℕ). get_or p.free k 0) (omega (arith, freed)) ∙ (subst (Stack p.free) next_free held.stored.frees).0

      pub slot_inside : {x : ℕ} → x ≡ get_or p.free (p.counts.freed - 1) 0 → x < length ls
      slot_inside e = omega (arith, top_slot e, (becomes i in_ages).0)

      -- and what is read there is its two edges
      module _ {x : ℕ} {e f : Edge} (ex : x ≡ get_or p.free (p.counts.freed - 1) 0) (read : (e ≡ (line_at ls x).e0) × (f ≡ (line_at ls x).e1)) where
        smaller : e ≡ lesser r.e0 r.e1
        smaller =
            read.0 ∙ ap (λ (k : ℕ). (line_at ls k).e0) (top_slot ex)
            ∙ ap (λ (x : Rec). x.e0) (sym line_is) ∙ sym (ap (λ (t : Bool). cond t r.e0 r.e1) ordered)

        larger : f ≡ greater r.e0 r.e1
        larger =
            read.1 ∙ ap (λ (k : ℕ). (line_at ls k).e1) (top_slot ex)
            ∙ ap (λ (x : Rec). x.e1) (sym line_is) ∙ sym (ap (λ (t : Bool). cond t r.e1 r.e0) ordered)

        pub next_allowed : PushOk n e f p
        next_allowed = push_allowed n p (filled ls i) held r.e0 r.e1 smaller larger next_may

        -- what a push of them makes of the buffers
        pub next_held : {q : Pool}
            → ((a b : Edge) (s : Store) → e ≡ lesser a b → f ≡ greater a b → Holds n p s → MayPush n a b s → Holds n q (push a b s))
            → Holds n q (filled ls (i + 1))
        next_held {q} pushed = subst (Holds n q) next_pushed (pushed r.e0 r.e1 (filled ls i) smaller larger held next_may)

  -- ---- the start: all slots wait
  pub all_wait : {k : ℕ} {q : Pool} → k ≡ length ls
      → ((l : List ℕ) → length l ≡ k → k ≤ n * (n - 1) → Stack q.free l → EachSlot l → Holds n q (waiting l))
      → Stack q.free (slots_by_age ls) → Holds n q (waiting (slots_by_age ls))
  all_wait count held stack = held (slots_by_age ls) (slots_len ∙ sym count) (omega (arith, count, fills.room)) stack each_slot

  -- ---- the end: all are pushed, and the dense order is that of the slots
  shuffled_back : Shuffled (take (length ls) (by_age ls)) (slotted 0 ls)
  shuffled_back q = sym (ap (count_p q) (ap (λ (k : ℕ). take k (by_age ls)) (sym len) ∙ take-length (by_age ls)) ∙ rising_shuffled (slotted 0 ls) q)

  slots_are : (j : ℕ) → j < length (slotted 0 ls) → (get_or (slotted 0 ls) j no_rec).slot ≡ j
  slots_are j h = ap slot_of (slotted_is ls j (omega (arith, h, slotted_length 0 ls)))

  all_pushed : reordered (slotted 0 ls) (filled ls (length ls)) ≡ taken_up ls
  all_pushed = λ t. record { dense = slotted 0 ls; pushes = length ls; free = none t }
    where
      none : drop (length ls) (slots_by_age ls) ≡ []
      none = ap (λ (k : ℕ). drop k (slots_by_age ls)) (sym slots_len) ∙ drop-length (slots_by_age ls)

  pub all_held : {k : ℕ} {p q : Pool} → k ≡ length ls
      → ((s : Store) (d : List Rec) → Holds n p s → Shuffled s.dense d → ((j : ℕ) → j < length d → (get_or d j no_rec).slot ≡ j) → Holds n q (reordered d s))
      → Holds n p (filled ls k) → Holds n q (taken_up ls)
  all_held {k} {p} {q} count ordered held =
      subst (Holds n q) all_pushed
      (ordered (filled ls (length ls)) (slotted 0 ls) (subst (λ (k : ℕ). Holds n p (filled ls k)) count held) shuffled_back slots_are)
