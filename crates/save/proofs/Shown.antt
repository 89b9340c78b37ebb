-- Buffers that show a store: the live records that are read of them are the store's.
use Rattle.std.specs.Prelude.{◌≡◌, refl, List, [], ◌∷◌, ℕ, suc, ◌≤◌, ◌<◌, length, get_or, take, map}
use Rattle.std.proofs.Common.{sym, ◌∙◌, ap, arith, length-take-le}
use Rattle.std.proofs.Math.ListN.{get_or-map}
use Rattle.std.proofs.Math.Seq.{get_or-take}
use Rattle.std.proofs.lemmas.List.{take-take}
use Rattle.intersection_set.specs.Store.{Rec, Store}
use Rattle.intersection_set.specs.Lists.{slot_of}
use Rattle.intersection_set.specs.Pool.{pair_of, no_pair, edges_of, Buffers}
use Rattle.intersection_set.specs.Holds.{Each, HeldIn, AgedIn, Shows}
use Rattle.save.specs.Saved.{rec_at, records_of}

-- the record at a slot, as the buffers have it
held_there : (ends ages : List ℕ) (r : Rec) → HeldIn (edges_of ends) r → AgedIn ages r → rec_at ends ages r.slot ≡ r
unfolding pair_of
held_there ends ages r held aged =
    let is : get_or (edges_of ends) r.slot no_pair ≡ pair_of (get_or ends r.slot 0) = get_or-map pair_of ends r.slot 0 in
    λ i. record { e0 = (ap (λ p. p.e0) (sym is) ∙ held.0) i; e1 = (ap (λ p. p.e1) (sym is) ∙ held.1) i; age = aged i; slot = r.slot }

slots_read : (f : ℕ → Rec) (d : List Rec) → Each (λ r. f r.slot ≡ r) d → map f (map slot_of d) ≡ d
slots_read f [] h = refl
slots_read f (r ∷ d) h = λ i. h 0 (omega arith) i ∷ slots_read f d (λ j l. h (suc j) (omega (arith, l))) i

pub shown_records : (n : ℕ) (b : Buffers) (s : Store) → Shows n b s → records_of (length s.dense) b.dense b.ends b.ages ≡ s.dense
shown_records n b s shows =
    ap (map (rec_at b.ends b.ages)) shows.dense ∙ slots_read (rec_at b.ends b.ages) s.dense (λ j h. held_there b.ends b.ages _ (shows.edges j h) (shows.ages j h))

-- of longer buffers no more is read than their first entries
read_alike : (f g : ℕ → Rec) (l : List ℕ) → ((j : ℕ) → j < length l → f (get_or l j 0) ≡ g (get_or l j 0)) → map f l ≡ map g l
read_alike f g [] h = refl
read_alike f g (k ∷ l) h = λ i. h 0 (omega arith) i ∷ read_alike f g l (λ j u. h (suc j) (omega (arith, u))) i

pub front_records : (size live : ℕ) (dense ends ages : List ℕ) → live ≤ size → live ≤ length dense → ((j : ℕ) → j < live → get_or dense j 0 < size)
    → records_of live (take size dense) (take size ends) (take size ages) ≡ records_of live dense ends ages
front_records size live dense ends ages few long slots =
    let same : (k : ℕ) → k < size → rec_at (take size ends) (take size ages) k ≡ rec_at ends ages k
    = λ k h i. record {
      e0 = (pair_of (get_or-take size ends k 0 h i)).e0;
      e1 = (pair_of (get_or-take size ends k 0 h i)).e1;
      age = get_or-take size ages k 0 h i;
      slot = k;
    } in
    ap (map (rec_at (take size ends) (take size ages))) (take-take live size dense few)
    ∙ read_alike (rec_at (take size ends) (take size ages)) (rec_at ends ages) (take live dense)
    (λ j h.
    let l : j < live = omega (arith, h, length-take-le live dense long) in
    same (get_or (take live dense) j 0) (omega (arith, get_or-take live dense j 0 l, slots j l)))
