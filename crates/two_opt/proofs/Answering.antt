-- The answer of an entry and what it leaves: of a call that a check refuses, and of one that runs.
use mathlib.Core.Path.{◌≡◌, refl, sym, ap, ◌∙◌, subst, subst⁻¹}
use mathlib.Core.Bool.{Bool, true, false, ◌||◌, cond}
use mathlib.Core.List.{List, ◌++◌}
use Prim.Native.Nat.{ℕ, ◌-◌, ◌*◌, ◌≤◌, ◌<◌}
use native.Mathlib.Omega.{arith}
use lib.Dec.{eqb, ltb}
use lib.IntN.{ℤ}
use lib.ListN.{length, get_or, take, drop, length-append}
use lib.Seq.{length-take-le}
use borrow.Author.Tests.{ne_eqb, ltb-false}
use lib.Seq.{take_at, drop_at}
use Rattle.algebra.specs.Cases.{both, or_parts}
use Rattle.geometry.specs.Plane.{Point}
use Rattle.geometry.specs.Lent.{points}
use Rattle.intersection_set.specs.Pool.{lent}
use Rattle.intersection_set.specs.Within.{Room}
use Rattle.machine.specs.Machine.{State, begin, run_word, place}
use Rattle.machine.specs.Onward.{from}
use Rattle.machine.specs.Answer.{refused, unfinished, delivered, finish, answer_from, refusal, too_many}
use Rattle.machine.proofs.Accepted.{Accepted, accepted, seven_or_nineteen}
use Rattle.untangle.specs.Running.{state_after}
use Rattle.box_tree.specs.Tree.{ring_tree, tree_size}
use Rattle.resolve.specs.Ended.{Counted, last_ring, Ended}
use Rattle.checks.specs.Checks.{any_below, Of}
use Rattle.two_opt.specs.Entry.{refusal_of, answer_of, Loan, loan, each, front, past, ring_sized, record_sized, short_of, first_refusal, Entry}
use Rattle.two_opt.specs.Lent.{Enough, Starting, RanFrom, RanIn}
use Rattle.two_opt.specs.declared.entries.Delivered.{Delivered}
use Rattle.resolve.specs.declared.resolve.Resolved.{Resolved}
use Rattle.refusal.proofs.Numbers.{some_number}
use Rattle.checks.proofs.Checking.{long, same_refusal}
use Rattle.std.specs.Prelude.{Result}
use Rattle.std.proofs.Common.{Bor}
use Rattle.geometry.specs.Spots.{spots}
use Rattle.geometry.specs.declared.lent.Points.{Points}
use Rattle.polygon.specs.Ring.{index_of}
use Rattle.refusal.specs.Number.{number_of}
use Rattle.refusal.specs.declared.Refusal.{Refusal}
use Rattle.refusal.specs.declared.Refusal.TheVariants.{PicksUsedUp}

-- ---- a call that is refused
pub refused_entry : (n : ℕ) (x y : List ℤ) (r cs : List ℕ) (l : Loan) {k : ℕ} → k ≡ first_refusal n x y r cs l → 0 < k → Entry n x y r cs l l (refused k)
refused_entry n x y r cs l is some =
    let no : first_refusal n x y r cs l ≡ 0 → ⊥ = λ e. (let z = is ∙ e in omega (arith, z, some)) in
    record {
      answers = ap refused is ∙ rw (ne_eqb (first_refusal n x y r cs l) 0 no) refl;
      untouched = λ _. refl;
      ended = λ e. absurd (no e);
      tree = λ e. absurd (no e);
      beyond = refl;
    }

-- ---- the lengths, where check 2 passes
pub enough : (n : ℕ) (x y : List ℤ) (l : Loan) → short_of n x y l ≡ false → Enough n l
enough n x y l h = record {
  in_ring = ring_long 2 (omega arith);
  in_index = ring_long 3 (omega arith);
  in_heads = records_long 0 (omega arith);
  in_ends = records_long 1 (omega arith);
  in_links = records_long 2 (omega arith);
  in_ages = records_long 3 (omega arith);
  in_dense = records_long 4 (omega arith);
  in_reverse = records_long 5 (omega arith);
  in_free = records_long 6 (omega arith);
  in_tangles = records_long 7 (omega arith);
  in_tree = ltb-false (length l.tree) (tree_size n) (or_parts (any_below n (ring_sized x y l) || any_below (n * (n - 1)) (record_sized l.records)) (ltb (length l.tree) (tree_size n)) h).1;
}
  where
    others : (any_below n (ring_sized x y l) || any_below (n * (n - 1)) (record_sized l.records)) ≡ false
    others = (or_parts (any_below n (ring_sized x y l) || any_below (n * (n - 1)) (record_sized l.records)) (ltb (length l.tree) (tree_size n)) h).0

    ring_long : (i : ℕ) → i < 4 → n ≤ get_or (ring_sized x y l) i 0
    ring_long = long n (ring_sized x y l) (or_parts (any_below n (ring_sized x y l)) (any_below (n * (n - 1)) (record_sized l.records)) others).0

    records_long : (i : ℕ) → i < 8 → n * (n - 1) ≤ get_or (record_sized l.records) i 0
    records_long = long (n * (n - 1)) (record_sized l.records) (or_parts (any_below n (ring_sized x y l)) (any_below (n * (n - 1)) (record_sized l.records)) others).1

-- ---- a part from the start on, lent and written
pub part_length : {A : Type 0} {n : ℕ} (m : ℕ) (l : List A) → m ≡ n → n ≤ length l → length (take m l) ≡ n
part_length {n = n} m l e h = ap (λ k. length (take k l)) e ∙ length-take-le n l h

-- what is past it is as it was
pub past_part : {A : Type 0} {n : ℕ} (m : ℕ) (part l : List A) → m ≡ n → length part ≡ n → drop n (part ++ drop m l) ≡ drop n l
past_part {n = n} m part l e h = drop_at part (drop m l) n h ∙ ap (λ k. drop k l) e

-- ---- the parts that check 2 asks for, lent to a run
pub exact_room : (n m : ℕ) (l : Loan) → m ≡ n * (n - 1) → Enough n l → Room n (each (take m) l.records)
exact_room n m l e h = record {
  in_heads = part_length m l.records.heads e h.in_heads;
  in_ends = part_length m l.records.ends e h.in_ends;
  in_links = part_length m l.records.links e h.in_links;
  in_ages = part_length m l.records.ages e h.in_ages;
  in_dense = part_length m l.records.dense e h.in_dense;
  in_reverse = part_length m l.records.reverse e h.in_reverse;
  in_free = part_length m l.records.free e h.in_free;
  in_tangles = part_length m l.records.tangles e h.in_tangles;
}

-- what was lent, with these parts written to its front
abbrev pub written : ℕ → ℕ → ℕ → Loan → Loan → Loan
written n m k was parts =
    let b = was.records in
    let c = parts.records in
    loan (parts.ring ++ drop n was.ring) (parts.index ++ drop n was.index)
    (lent
    (c.heads ++ drop m b.heads)
    (c.ends ++ drop m b.ends)
    (c.links ++ drop m b.links)
    (c.ages ++ drop m b.ages)
    (c.dense ++ drop m b.dense)
    (c.reverse ++ drop m b.reverse)
    (c.free ++ drop m b.free)
    (c.tangles ++ drop m b.tangles))
    (parts.tree ++ drop k was.tree)

module _ (n m k : ℕ) (was parts : Loan) (em : m ≡ n * (n - 1)) (ek : k ≡ tree_size n) (lr : length parts.ring ≡ n) (li : length parts.index ≡ n) (lb : Room n parts.records) (lt : length parts.tree ≡ tree_size n) where
  front_written : front n (written n m k was parts) ≡ parts
  front_written =
      let z : ℕ = n * (n - 1) in
      let b = was.records in
      let c = parts.records in
      λ i. loan (take_at parts.ring (drop n was.ring) n lr i) (take_at parts.index (drop n was.index) n li i)
      (lent (take_at c.heads (drop m b.heads) z lb.in_heads i) (take_at c.ends (drop m b.ends) z lb.in_ends i) (take_at c.links (drop m b.links) z lb.in_links i) (take_at c.ages (drop m b.ages) z lb.in_ages i) (take_at c.dense (drop m b.dense) z lb.in_dense i) (take_at c.reverse (drop m b.reverse) z lb.in_reverse i) (take_at c.free (drop m b.free) z lb.in_free i) (take_at c.tangles (drop m b.tangles) z lb.in_tangles i))
      (take_at parts.tree (drop k was.tree) (tree_size n) lt i)

  past_written : past n (written n m k was parts) ≡ past n was
  past_written =
      let b = was.records in
      let c = parts.records in
      λ i. loan (past_part n parts.ring was.ring refl lr i) (past_part n parts.index was.index refl li i)
      (lent (past_part m c.heads b.heads em lb.in_heads i) (past_part m c.ends b.ends em lb.in_ends i) (past_part m c.links b.links em lb.in_links i) (past_part m c.ages b.ages em lb.in_ages i) (past_part m c.dense b.dense em lb.in_dense i) (past_part m c.reverse b.reverse em lb.in_reverse i) (past_part m c.free b.free em lb.in_free i) (past_part m c.tangles b.tangles em lb.in_tangles i))
      (past_part k parts.tree was.tree ek lt i)

  -- a run over the parts is one over what is lent
  pub ran_parts : (pt : ℕ → Point) (s : State) (cs : List ℕ) {r : Resolved} → parts.tree ≡ ring_tree n pt parts.ring
      → Counted n pt s cs r.moves r.cross r.left × Ended n pt s cs parts.ring parts.index parts.records
      → RanFrom n pt s cs was (written n m k was parts) r
  ran_parts pt s cs tree (counted, ended) = record {
    counted = counted;
    ended = subst⁻¹ (λ (l : Loan). Ended n pt s cs l.ring l.index l.records) front_written ended;
    tree = subst⁻¹ (λ (l : Loan). l.tree ≡ ring_tree n pt l.ring) front_written tree;
    beyond = past_written;
  }

-- a ring and its index written to the front of what was lent
pub starting : (n : ℕ) (l : Loan) (r : List ℕ) {ring index : List ℕ} → Enough n l → length r ≡ n → ring ≡ r → length index ≡ n → index ≡ index_of n r
    → Starting n r l (loan (ring ++ drop n l.ring) (index ++ drop n l.index) l.records l.tree)
starting n l r {ring} {index} e lr is li inverse =
    let lring : length ring ≡ n = ap length is ∙ lr in
    record {
      ring = take_at ring (drop n l.ring) n lring ∙ is;
      index = take_at index (drop n l.index) n li ∙ inverse;
      enough = record {
        in_ring = longer ring (drop n l.ring) lring;
        in_index = longer index (drop n l.index) li;
        in_heads = e.in_heads;
        in_ends = e.in_ends;
        in_links = e.in_links;
        in_ages = e.in_ages;
        in_dense = e.in_dense;
        in_reverse = e.in_reverse;
        in_free = e.in_free;
        in_tangles = e.in_tangles;
        in_tree = e.in_tree;
      };
      beyond = λ i. loan (past_part n ring l.ring refl lring i) (past_part n index l.index refl li i) (each (drop (n * (n - 1))) l.records) (drop (tree_size n) l.tree);
    }
  where
    longer : (part rest : List ℕ) → length part ≡ n → n ≤ length (part ++ rest)
    longer part rest h = omega (arith, h, length-append part rest)

-- ---- a call that runs, of which no check refuses
module _ (n : ℕ) (x y : List ℤ) (r cs : List ℕ) (l : Loan) {s m : Bool} (es : n ≤ 256 → s ≡ short_of n x y l) (em : m ≡ too_many cs) where
  -- the number that the code answers is the definition's
  pub number_is : {k : ℕ} → k ≡ refusal n (points x y) s m r → k ≡ first_refusal n x y r cs l
  number_is e = e ∙ same_refusal n (points x y) s (short_of n x y l) m r es ∙ ap (λ (b : Bool). refusal n (points x y) (short_of n x y l) b r) em

  pub record Passing : Type 0 where
    pub ok : first_refusal n x y r cs l ≡ 0
    pub accepted : Accepted n (points x y) (short_of n x y l) (too_many cs) r
    pub enough : Enough n l
    pub plain : refusal n (points x y) false (too_many cs) r ≡ 0

  pub passing : {k : ℕ} → k ≡ refusal n (points x y) s m r → k ≡ 0 → Passing
  passing e z =
      let no : first_refusal n x y r cs l ≡ 0 = sym (number_is e) ∙ z in
      let a = (accepted n (points x y) (short_of n x y l) (too_many cs) r).0 no in
      record { ok = no; accepted = a; enough = enough n x y l a.long; plain = subst (λ b. refusal n (points x y) b (too_many cs) r ≡ 0) a.long no }

-- the answer of a run, by its counts
module _ (n : ℕ) (pt : ℕ → Point) (s : State) (cs : List ℕ) where
  as_answered : (t : Bool) (f g : List ℕ) {m m' c c' l l' : ℕ} {ring : List ℕ} → m ≡ m' → c ≡ c' → l ≡ l' → ring ≡ cond t f g → cond t (delivered ring m c) (unfinished ring m l) ≡ cond t (delivered f m' c') (unfinished g m' l')
  as_answered true f g em ec el er = λ i. delivered (er i) (em i) (ec i)
  as_answered false f g em ec el er = λ i. unfinished (er i) (em i) (el i)

  pub ran_answer : {m c l : ℕ} {ring : List ℕ} → Counted n pt s cs m c l → ring ≡ last_ring n pt s cs
      → cond (eqb l 0) (delivered ring m c) (unfinished ring m l) ≡ answer_from n pt (length s.store.dense) (run_word n pt place cs (from s))
  ran_answer {m} {c} {l} {ring} k e =
      let t = state_after n pt s cs in
      ap (λ j. cond (eqb j 0) (delivered ring m c) (unfinished ring m l)) k.left
      ∙ as_answered (eqb (length t.store.dense) 0) (finish n pt t.ring) t.ring k.moves k.cross k.left e

-- ---- a call that runs from the ring r: `mid` holds it, and else what was lent
module _ {n : ℕ} {x y : Bor (List ℤ)} (p : Points) (o : Of n x y p) (r cs : List ℕ) {was mid : Loan} (h : Starting n r was mid) where
  -- the run can begin
  pub ready : refusal n (points x.now y.now) false (too_many cs) r ≡ 0
      → Enough p.n mid × (take p.n mid.index ≡ index_of p.n (take p.n mid.ring)) × (refusal p.n (spots p) false (too_many cs) (take p.n mid.ring) ≡ 0)
  ready ok =
      let Begins : (n : ℕ) → (ℕ → Point) → List ℕ → Type 0 = λ n pt l. (Enough n mid × (take n mid.index ≡ index_of n l) × (refusal n pt false (too_many cs) l ≡ 0)) in
      let begins : Begins n (points x.now y.now) (take n mid.ring) = subst⁻¹ (Begins n (points x.now y.now)) h.ring (h.enough, h.index, ok) in
      subst⁻¹ (λ (X : Type 0). X) (λ t. Begins (o.0 t) (points (o.1 t).now (o.2 t).now) (take (o.0 t) mid.ring)) begins

  -- it answers as the machine does, and writes nothing past what check 2 asks for
  pub entry_ran : {is : Loan} (a : Result Delivered Refusal) {done : Resolved} → first_refusal n x.now y.now r cs was ≡ 0
      → RanIn p.n (spots p) cs mid is done
      → ((ring : List ℕ) → answer_of a ring ≡ cond (eqb done.left 0) (delivered ring done.moves done.cross) (unfinished ring done.moves done.left))
      → Entry n x.now y.now r cs was is (answer_of a (take n is.ring))
  entry_ran {is} a {done} ok ran tells =
      let pt = points x.now y.now in
      let g : RanIn n pt cs mid is done = subst (λ (X : Type 0). X) (λ t. RanIn (o.0 t) (points (o.1 t).now (o.2 t).now) cs mid is done) ran in
      let counted = subst (λ l. Counted n pt (begin n pt l).now cs done.moves done.cross done.left) h.ring g.counted in
      let ended = subst (λ l. Ended n pt (begin n pt l).now cs (front n is).ring (front n is).index (front n is).records) h.ring g.ended in
      record {
        answers = tells _ ∙ ran_answer n pt (begin n pt r).now cs counted ended.same_ring ∙ rw ok refl;
        untouched = λ no. absurd (no ok);
        ended = λ _. ended;
        tree = λ _. g.tree;
        beyond = g.beyond ∙ h.beyond;
      }

-- ---- a refusal of the checks is told by its number: only a run is refused with 8
pub not_eight : (n : ℕ) (pt : ℕ → Point) (s m : Bool) (r : List ℕ) → refusal n pt s m r ≡ 8 → ⊥
not_eight n pt s m r h = both (seven_or_nineteen n pt s m r) (λ l. omega (arith, l, h)) (λ l. omega (arith, l.0, h))

pub told_by : (r : Refusal) (ring : List ℕ) → (number_of r ≡ 8 → ⊥) → refusal_of r ring ≡ refused (number_of r)
told_by (PicksUsedUp moves left) ring h = absurd (h refl)
told_by r ring h = refl

-- a call that is refused
pub entry_refused : (n : ℕ) (x y : List ℤ) (r cs : List ℕ) (l : Loan) (e : Refusal) {s m : Bool} → (n ≤ 256 → s ≡ short_of n x y l) → m ≡ too_many cs → number_of e ≡ refusal n (points x y) s m r
    → Entry n x y r cs l l (refusal_of e (take n l.ring))
entry_refused n x y r cs l e {s} {m} es em q =
    subst⁻¹ (λ a. Entry n x y r cs l l a) (told_by e (take n l.ring) (λ z. not_eight n (points x y) s m r (sym q ∙ z)))
    (refused_entry n x y r cs l (number_is n x y r cs l es em q) (some_number e))
