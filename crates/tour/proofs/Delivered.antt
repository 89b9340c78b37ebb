-- A run that is not refused leaves a ring that names each point once; no edge of a delivered loop has equal ends.
use mathlib.Core.Path.{◌≡◌, refl, sym, ap, subst, ◌∙◌}
use mathlib.Core.Bool.{Bool, false, cond}
use mathlib.Core.List.{List, [], ◌∷◌}
use Prim.Native.Nat.{ℕ, ◌≤◌, ◌<◌}
use native.Mathlib.Omega.{arith}
use lib.IntN.{pos}
use lib.ListN.{length}
use Rattle.algebra.specs.Cases.{both, eq_cases}
use Rattle.algebra.specs.Ranges.{up_from}
use Rattle.geometry.specs.Plane.{Point}
use Rattle.geometry.specs.Lent.{points}
use Rattle.polygon.specs.Ring.{IsRing}
use Rattle.intersection_set.specs.Store.{Rec}
use Rattle.machine.specs.Answer.{Answer, refused, unfinished, delivered, answer, refusal, too_many, call}
use Rattle.machine.specs.Machine.{after, place}
use Rattle.machine.specs.Demand3.{last_pairs}
use Rattle.machine.proofs.Accepted.{accepted, demand3_call}
use Rattle.job.specs.Feed.{edge_feed}
use Rattle.job.proofs.Feeds.{edge_some}

abbrev ring_of : Answer → List ℕ
ring_of (refused k) = []
ring_of (unfinished r m l) = r
ring_of (delivered r m c) = r

abbrev left_of : Answer → ℕ
left_of (unfinished r m l) = l
left_of a = 0

-- ---- an answer that goes by what a search found
module _ {r f : List ℕ} {m k left : ℕ} {a : Answer} (found : List Rec) (delivers : found ≡ [] → a ≡ delivered f m k) (withholds : ¬ (found ≡ []) → a ≡ unfinished r m left) where
  -- a loop is delivered where it found none
  pub found_none : {l : List ℕ} {m' c : ℕ} → a ≡ delivered l m' c → (found ≡ []) × (l ≡ f)
  found_none {l} {m'} {c} e = by_search found refl
    where
      by_search : (some : List Rec) → found ≡ some → (found ≡ []) × (l ≡ f)
      by_search [] none = (none, ap ring_of (sym e ∙ delivers none))
      by_search (x ∷ others) some =
          let not_none : found ≡ [] → ⊥ = λ none. (let z : ◌≡◌ {A = ℕ} 0 1 = cc in omega arith) in
          let u : unfinished r m left ≡ delivered l m' c = sym (withholds not_none) ∙ e in
          absurd (let z : ◌≡◌ {A = ℕ} 0 1 = cc in omega arith)

  -- else the ring is answered, with the records left
  pub found_some : {l : List ℕ} {m' j : ℕ} → a ≡ unfinished l m' j → (l ≡ r) × (j ≡ left)
  found_some {l} {m'} {j} e = by_search found refl
    where
      by_search : (some : List Rec) → found ≡ some → (l ≡ r) × (j ≡ left)
      by_search [] none =
          let u : delivered f m k ≡ unfinished l m' j = sym (delivers none) ∙ e in
          absurd (let z : ◌≡◌ {A = ℕ} 0 1 = cc in omega arith)
      by_search (x ∷ others) some =
          let not_none : found ≡ [] → ⊥ = λ none. (let z : ◌≡◌ {A = ℕ} 0 1 = cc in omega arith) in
          let is : unfinished l m' j ≡ unfinished r m left = sym e ∙ withholds not_none in
          (ap ring_of is, ap left_of is)

-- ---- a call
module _ (n : ℕ) (pt : ℕ → Point) (short : Bool) (r cs : List ℕ) where
  -- what is answered by no number was refused by no check
  ran : {a : Answer} → call n pt short r cs ≡ a → ((k : ℕ) → refused k ≡ a → ⊥) → refusal n pt short (too_many cs) r ≡ 0
  ran e some =
      both (eq_cases (refusal n pt short (too_many cs) r) 0) (λ h. h.0)
      (λ h.
      let a = answer n pt r (after n pt place cs r) in
      absurd (some (refusal n pt short (too_many cs) r) (sym (ap (λ t. cond t a (refused (refusal n pt short (too_many cs) r))) h.1) ∙ e)))

  module _ {l : List ℕ} {m c : ℕ} (e : call n pt short r cs ≡ delivered l m c) where
    none_refused : refusal n pt short (too_many cs) r ≡ 0
    none_refused = ran e (λ k no. absurd (let z : ◌≡◌ {A = ℕ} 0 1 = cc in omega arith))

    pub delivered_ring : IsRing n l
    delivered_ring =
        let (is, d) = demand3_call n pt short r cs none_refused in
        let (none, same) = found_none (last_pairs n pt place cs r) d.delivers d.withholds (sym is ∙ e) in
        subst (IsRing n) (sym same) (d.loop none).ring

    -- no edge of a delivered loop has equal ends: each has some feed
    pub delivered_feeds : (i : ℕ) → i < n → 1 ≤ edge_feed pt l i
    delivered_feeds =
        let b = ((accepted n pt short (too_many cs) r).0 none_refused).board in
        edge_some n pt l (omega (arith, b.three)) delivered_ring b.distinct

  -- where the picks are used up the ring and the records left are the machine's
  module _ {l : List ℕ} {m k : ℕ} (e : call n pt short r cs ≡ unfinished l m k) where
    pub stopped_refused : refusal n pt short (too_many cs) r ≡ 0
    stopped_refused = ran e (λ k no. absurd (let z : ◌≡◌ {A = ℕ} 0 1 = cc in omega arith))

    pub stopped_as : (l ≡ (after n pt place cs r).now.ring) × (k ≡ length (after n pt place cs r).now.store.dense) × IsRing n l
    stopped_as =
        let (is, d) = demand3_call n pt short r cs stopped_refused in
        let (same, left) = found_some (last_pairs n pt place cs r) d.delivers d.withholds (sym is ∙ e) in
        (same, left, subst (IsRing n) (sym same) d.ring)

-- a board with such an edge is refused
pub equal_ends : call 3 (points (pos 0 ∷ pos 0 ∷ pos 1 ∷ []) (pos 0 ∷ pos 0 ∷ pos 0 ∷ [])) false (up_from 0 3) [] ≡ refused 5
equal_ends = refl
