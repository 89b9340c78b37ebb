-- A stretch of the ring that does not wrap, reversed where it lies, and what the old index still tells of the ring after that.
use Rattle.std.proofs.Common.{◌≡◌, sym, ◌∙◌, ap, ℕ, ◌+◌, ◌-◌, ◌≤◌, ◌<◌, List, ◌++◌, length, take, drop, reverse, arith}
use Rattle.std.proofs.lemmas.Grind.{elements}
use Rattle.algebra.specs.Cases.{both, le_cases}
use Rattle.polygon.specs.Ring.{at, flip, reversed, Indexed, IndexedBut}
use Rattle.polygon.proofs.RingEdges.{moved_at, moved_length, reversed_ring}
use Rattle.polygon.proofs.InPlace.{moved_is}

module _ (n p q : ℕ) (pq : p < q) (lq : q < n) where
  pub flip_within : (i : ℕ) → p ≤ i → i ≤ q → flip n p q i ≡ p + q - i
  flip_within i a b = grind arith

  pub flip_before : (i : ℕ) → i < p → flip n p q i ≡ i
  flip_before i a = grind arith

  pub flip_behind : (i : ℕ) → q < i → flip n p q i ≡ i
  flip_behind i a = grind arith

-- the list t in the place of as many entries, from p on
abbrev put : List ℕ → ℕ → ℕ → List ℕ → List ℕ
put r p k t = take p r ++ (t ++ drop k (drop p r))

module _ (r t : List ℕ) (p q : ℕ) (pq : p < q) (lq : q < length r) (e : t ≡ reverse (take (q + 1 - p) (drop p r))) where
  size : length t ≡ q + 1 - p
  size = grind (arith, elements)

  whole : length (put r p (q + 1 - p) t) ≡ length r
  whole = grind (arith, elements)

  before : (i : ℕ) → i < p → at (put r p (q + 1 - p) t) i ≡ at r i
  before i l = grind (arith, elements)

  within : (i : ℕ) → p ≤ i → i ≤ q → at (put r p (q + 1 - p) t) i ≡ at r (p + q - i)
  within i a b = grind (arith, elements)

  behind : (i : ℕ) → q < i → at (put r p (q + 1 - p) t) i ≡ at r i
  behind i l = grind (arith, elements)

  pub part_reversed : put r p (q + 1 - p) t ≡ reversed (length r) r p q
  part_reversed =
      moved_is (length r) (flip (length r) p q) r (put r p (q + 1 - p) t) whole
      (λ i l.
      both (le_cases p i)
      (λ h. both (le_cases i q)
      (λ g. within i h.0 g.0 ∙ ap (at r) (sym (flip_within (length r) p q pq lq i h.0 g.0)))
      (λ g. behind i g.0 ∙ ap (at r) (sym (flip_behind (length r) p q pq lq i g.0))))
      (λ h. before i h.0 ∙ ap (at r) (sym (flip_before (length r) p q pq lq i h.0))))

-- of the points outside that part the index is right still
pub outside_indexed : {r x r' : List ℕ} {p q : ℕ} → Indexed (length r) r x → p < q → q < length r → r' ≡ reversed (length r) r p q → IndexedBut (length r') r' x p (q + 1)
outside_indexed {r} {x} {r'} {p} {q} k pq lq e =
    rw (ap length e ∙ moved_length (length r) (flip (length r) p q) r) (record {
      ring = rw e (reversed_ring (length r) r p q (omega arith) lq k.ring);
      size = k.index.size;
      finds = λ i l o. ap (at x) (same i l (both o (flip_before (length r) p q pq lq i) (λ h. flip_behind (length r) p q pq lq i (omega arith)))) ∙ k.index.finds i l;
    })
  where
    same : (i : ℕ) → i < length r → flip (length r) p q i ≡ i → at r' i ≡ at r i
    same i l f = rw e (moved_at (length r) (flip (length r) p q) r i l) ∙ ap (at r) f
