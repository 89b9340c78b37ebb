use Rattle.std.proofs.Common.{◌≡◌, sym, ◌∙◌, List, [], ◌∷◌, ℕ, zero, suc, ◌<◌, length, drop, get_or, pos, arith, rules, add-one, length-append}
use Rattle.geometry.specs.Lent.{coord}
use Rattle.job.specs.Words.{bytes_of, bits_of}
use Rattle.job.specs.Encoded.{pairs}
use Rattle.job.proofs.Writing.{wrote_none, wrote_then}
use Rattle.job.proofs.Bytes.{length_bytes}
use Rattle.job.proofs.TwosComplement.{bits_read}
use Rattle.job.proofs.Encoding.{pairs_next, length_pairs}
use Rattle.job.proofs.encoder.put_pairs.Goals as goal

-- the item in front of those that are left
next_item : {A : Type 0} (l r : List A) (k : ℕ) (a d : A) → drop k l ≡ a ∷ r → (k < length l) × (get_or l k d ≡ a) × (drop (suc k) l ≡ r)
next_item [] r zero a d e = absurd (cc)
next_item [] r (suc k) a d e = absurd (cc)
next_item (b ∷ l) r zero a d e = (omega arith, cc, cc)
next_item (b ∷ l) r (suc k) a d e = let h = next_item l r k a d e in (omega (arith, h.0), h.1, h.2)

pub loop-a-init : goal.loop-a-init
unfolding pairs bytes_of
loop-a-init c = record { xs = search rules; ys = search rules; written = wrote_none c.args.w.now }

pub words-requires : goal.words-requires
words-requires c =
    let x = c.args.x.now in
    let l = c.loop-a in
    let k = length l.yielded in
    let h = next_item x _ k _ (pos 0) (sym l.invariant.xs ∙ c.in-Some.ensures.steps.0) in
    omega (arith, l.invariant.written.text.next, length_bytes (pairs x c.args.y.now k), length_pairs x c.args.y.now k, h.0)

pub loop-a-preserved : goal.loop-a-preserved
loop-a-preserved c =
    let x = c.args.x.now in
    let y = c.args.y.now in
    let l = c.loop-a in
    let k = length l.yielded in
    let h = next_item x _ k _ (pos 0) (sym l.invariant.xs ∙ c.in-Some.ensures.steps.0) in
    let g = next_item y _ k _ (pos 0) (sym l.invariant.ys ∙ c.in-Some.ensures.steps.1) in
    let a : c.cast_unsigned.result ≡ bits_of (coord x k) = bits_read c.cast_unsigned.ensures (search rules) (sym h.1) in
    let b : c.cast_unsigned-in-loop-a.result ≡ bits_of (coord y k) = bits_read c.cast_unsigned-in-loop-a.ensures (search rules) (sym g.1) in
    rw length-append record {
      xs = rw add-one (sym h.2);
      ys = rw add-one (sym g.2);
      written = rw (pairs_next x y k) (wrote_then l.invariant.written (rw (a, b) at c.words.ensures));
    }
