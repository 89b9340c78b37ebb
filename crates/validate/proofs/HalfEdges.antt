-- Half-open edges reject the same rings as closed ones: where a common place ends an edge, the next edge starts there, and of two half-open edges with
-- different starts no vertex is a common place.
use mathlib.Core.Path.{◌≡◌, refl, sym, ◌∙◌, ap}
use mathlib.Core.List.{List, [], ◌∷◌}
use mathlib.Core.Logic.{inl, inr, ◌≢◌, ◌↔◌}
use Prim.Native.Nat.{ℕ, ◌≤◌, ◌<◌}
use native.Mathlib.Omega.{arith}
use lib.IntN.{ℤ, pos, ◌-ℤ◌, ◌*ℤ◌}
use lib.Signed.{◌<ℤ◌}
use borrow.Author.Differences.{ints}
use Rattle.algebra.specs.Polynomials.{lit, ◌:-◌, ◌:*◌, neg, hyp, sub_zero}
use Rattle.algebra.specs.Identities.{follows, num, ◌:=◌, ◌⇐◌}
use Rattle.algebra.specs.Order.{≤ℤ-or-<, ≤ℤ-antisym, <ℤ-le}
use Rattle.algebra.specs.Signs.{no_zero}
use Rattle.algebra.specs.Cases.{both}
use Rattle.geometry.specs.Plane.{Point}
use Rattle.geometry.specs.Segment.{CommonPlace, way, Ends, StandsAt, Meet}
use Rattle.geometry.proofs.Points.{point_eq}
use Rattle.geometry.proofs.Places.{way_of_edge, meets_sym}
use Rattle.polygon.specs.Ring.{next, IsRing}
use Rattle.polygon.proofs.Positions.{next_lt, next_not}
use Rattle.machine.specs.Board.{pt_at, Distinct}
use Rattle.machine.proofs.Corners.{ring_apart}
use Rattle.validate.specs.Meetings.{SomeMeet}
use Rattle.validate.specs.HalfOpen.{HalfMeet, SomeShare}

-- ---- one coordinate
-- a place short of the end v of the way from u is v only where u is
not_end : (d s u v : ℤ) → s <ℤ d → d *ℤ v ≡ way d s u v → u ≡ v
not_end d s u v h e =
    both (no_zero (d -ℤ s) (v -ℤ u) (gap d s u v e)) (λ z. absurd (omega (arith, ints))) (λ z. sym (sub_zero v u z))
  where
    gap : (d s u v : ℤ) → d *ℤ v ≡ way d s u v → (d -ℤ s) *ℤ (v -ℤ u) ≡ pos 0
    gap = follows (num ∷ num ∷ num ∷ num ∷ []) (λ d s u v. ((d :- s) :* (v :- u) := lit (pos 0)) ⇐ (hyp (lit (pos 1)) (d :* v) (way_of_edge d s u v) ∷ [])) tt

-- the whole way leads to the end
whole : (d s u v : ℤ) → s ≡ d → d *ℤ v ≡ way d s u v
whole = follows (num ∷ num ∷ num ∷ num ∷ []) (λ d s u v. (d :* v := way_of_edge d s u v) ⇐ (hyp (neg (v :- u)) s d ∷ [])) tt

-- and none of the way from there
onward : (d s t u v w b b' : ℤ) → s ≡ d → way d s u v ≡ way d t b b' → way d (pos 0) v w ≡ way d t b b'
onward = follows (num ∷ num ∷ num ∷ num ∷ num ∷ num ∷ num ∷ num ∷ [])
    (λ d s t u v w b b'. (way_of_edge d (lit (pos 0)) v w := way_of_edge d t b b') ⇐ (hyp (neg (v :- u)) s d ∷ hyp (lit (pos 1)) (way_of_edge d s u v) (way_of_edge d t b b') ∷ [])) tt

same_times : (d u v : ℤ) → pos 0 <ℤ d → d *ℤ u ≡ d *ℤ v → u ≡ v
same_times d u v h e = both (no_zero d (u -ℤ v) (gap d u v e)) (λ z. absurd (omega (arith, ints))) (λ z. sub_zero u v z)
  where
    gap : (d u v : ℤ) → d *ℤ u ≡ d *ℤ v → d *ℤ (u -ℤ v) ≡ pos 0
    gap = follows (num ∷ num ∷ num ∷ []) (λ d u v. (d :* (u :- v) := lit (pos 0)) ⇐ (hyp (lit (pos 1)) (d :* u) (d :* v) ∷ [])) tt

-- ---- two edges
module _ {a a' b b' : Point} (m : CommonPlace a a' b b') where
  short_of : m.s <ℤ m.d → StandsAt m a' → a ≡ a'
  short_of h e = point_eq a a' (not_end m.d m.s a.x a'.x h e.0) (not_end m.d m.s a.y a'.y h e.1)

  short_of₂ : m.t <ℤ m.d → StandsAt m b' → b ≡ b'
  short_of₂ h e = point_eq b b' (not_end m.d m.t b.x b'.x h (e.0 ∙ m.at_x)) (not_end m.d m.t b.y b'.y h (e.1 ∙ m.at_y))

  at_end : m.s ≡ m.d → StandsAt m a'
  at_end e = (whole m.d m.s a.x a'.x e, whole m.d m.s a.y a'.y e)

  at_end₂ : m.t ≡ m.d → StandsAt m b'
  at_end₂ e = (whole m.d m.t b.x b'.x e ∙ sym m.at_x, whole m.d m.t b.y b'.y e ∙ sym m.at_y)

  one_point : (v w : Point) → StandsAt m v → StandsAt m w → v ≡ w
  one_point v w h k = point_eq v w (same_times m.d v.x w.x m.d> (h.0 ∙ sym k.0)) (same_times m.d v.y w.y m.d> (h.1 ∙ sym k.1))

  -- the end of the first is the start of any that goes on from there
  go_on : (c : Point) → m.s ≡ m.d → m.t <ℤ m.d → HalfMeet a' c b b'
  go_on c e h = record {
    place = record {
      d = m.d;
      s = pos 0;
      t = m.t;
      d> = m.d>;
      s≥ = omega (arith, ints);
      s≤ = <ℤ-le m.d>;
      t≥ = m.t≥;
      t≤ = m.t≤;
      at_x = onward m.d m.s m.t a.x a'.x c.x b.x b'.x e m.at_x;
      at_y = onward m.d m.s m.t a.y a'.y c.y b.y b'.y e m.at_y;
    };
    s< = m.d>;
    t< = h;
  }

half_sym : {a a' b b' : Point} → HalfMeet a a' b b' → HalfMeet b b' a a'
unfolding meets_sym
half_sym h = record { place = meets_sym h.place; s< = h.t<; t< = h.s< }

go_on₂ : {a a' b b' : Point} (m : CommonPlace a a' b b') (c : Point) → m.t ≡ m.d → m.s <ℤ m.d → HalfMeet a a' b' c
unfolding meets_sym
go_on₂ m c e h = half_sym (go_on (meets_sym m) c e h)

-- half-open edges with different starts meet where they have a place in common
half_meets : {a a' b b' : Point} → a ≢ a' → b ≢ b' → a ≢ b → HalfMeet a a' b b' → Meet a a' b b'
half_meets {a} {a'} {b} {b'} na nb ab h = record { place = h.place; no_vertex = none }
  where
    none : (v : Point) → Ends v a a' → Ends v b b' → ¬ (StandsAt h.place v)
    none v (inl e) (inl f) k = ab (sym e ∙ f)
    none v (inl e) (inr f) k = nb (short_of₂ h.place h.t< (rw f at k))
    none v (inr e) f k = na (short_of h.place h.s< (rw e at k))

-- ---- a ring
module _ (n : ℕ) (pt : ℕ → Point) (r : List ℕ) where
  abbrev P : ℕ → Point
  P = pt_at pt r

  -- the ends of an edge are different points
  pub ends_differ : 3 ≤ n → Distinct n pt → IsRing n r → (i : ℕ) → i < n → P i ≢ P (next n i)
  ends_differ three di ring i l e = next_not n i (omega (arith, three)) l (sym (ring_apart n pt r ring di i (next n i) l (next_lt n i l) e))

  share_meet : 3 ≤ n → Distinct n pt → IsRing n r → SomeShare n pt r → SomeMeet n pt r
  share_meet three di ring h =
      record {
        i = h.i;
        j = h.j;
        first_in = h.first_in;
        second_in = h.second_in;
        differ = h.differ;
        related = half_meets
            (ends_differ three di ring h.i h.first_in)
            (ends_differ three di ring h.j h.second_in)
            (λ e. h.differ (ring_apart n pt r ring di h.i h.j h.first_in h.second_in e))
            h.related;
      }

  meet_share : SomeMeet n pt r → SomeShare n pt r
  meet_share h =
      both (≤ℤ-or-< d s)
      (λ ds. let es : s ≡ d = ≤ℤ-antisym m.s≤ ds in
      both (≤ℤ-or-< d t)
      (λ dt. let et : t ≡ d = ≤ℤ-antisym m.t≤ dt in
      absurd (h.related.no_vertex (P (next n i)) (inr refl) (inr (one_point m (P (next n i)) (P (next n j)) (at_end m es) (at_end₂ m et))) (at_end m es)))
      (λ dt. record {
        i = next n i;
        j = j;
        first_in = next_lt n i h.first_in;
        second_in = h.second_in;
        differ = λ e. h.related.no_vertex (P (next n i)) (inr refl) (inl (ap P e)) (at_end m es);
        related = go_on m (P (next n (next n i))) es dt;
      }))
      (λ ds. both (≤ℤ-or-< d t)
      (λ dt. let et : t ≡ d = ≤ℤ-antisym m.t≤ dt in
      record {
        i = i;
        j = next n j;
        first_in = h.first_in;
        second_in = next_lt n j h.second_in;
        differ = λ e. h.related.no_vertex (P (next n j)) (inl (ap P (sym e))) (inr refl) (at_end₂ m et);
        related = go_on₂ m (P (next n (next n j))) et ds;
      })
      (λ dt. record { i = i; j = j; first_in = h.first_in; second_in = h.second_in; differ = h.differ; related = record { place = m; s< = ds; t< = dt } }))
    where
      i : ℕ
      i = h.i

      j : ℕ
      j = h.j

      m : CommonPlace (P h.i) (P (next n h.i)) (P h.j) (P (next n h.j))
      m = h.related.place

      d : ℤ
      d = h.related.place.d

      s : ℤ
      s = h.related.place.s

      t : ℤ
      t = h.related.place.t

  -- They reject the same rings, for every ring of at least three points no two of which are equal.
  pub half_open_rejects : 3 ≤ n → Distinct n pt → IsRing n r → SomeShare n pt r ↔ SomeMeet n pt r
  half_open_rejects three di ring = (share_meet three di ring, meet_share)
