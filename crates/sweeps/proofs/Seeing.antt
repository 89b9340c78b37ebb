-- What is seen of two ring points from an edge tells how it meets the edge between them.
use mathlib.Core.Path.{◌≡◌, sym, ap, ap₂, ◌∙◌}
use mathlib.Core.Bool.{Bool, true, false, ◌&&◌, ◌||◌, cond}
use Prim.Native.Nat.{ℕ, ◌<◌}
use native.Mathlib.Omega.{arith}
use lib.IntN.{ℤ}
use lib.Signed.{lt_z}
use lib.Dec.{eqb, ltb}
use Rattle.algebra.specs.Cases.{both, true_or_false, eq_cases, never}
use Rattle.geometry.specs.Plane.{Point, is_zero, eq_point, lt_point, min_point, max_point}
use Rattle.std.specs.Option.{is_some}
use Rattle.std.specs.Bool.{then_some}
use Rattle.geometry.specs.Segment.{shared, overlap}
use Rattle.geometry.specs.Contact.{kind, some_contact}
use Rattle.geometry.specs.Answers.{without_ends}
use Rattle.geometry.specs.declared.line_segment.ContactKind.TheVariants.{Overlap}
use Rattle.geometry.specs.Lent.{InRange, order_key}
use Rattle.geometry.specs.Spots.{spots}
use Rattle.geometry.specs.declared.lent.Points.{Points}
use Rattle.geometry.proofs.Points.{zero_is, eq_point_same, eq_point_true, turn_first}
use Rattle.geometry.proofs.Reading.{here_in_range, here}
use Rattle.geometry.proofs.MeetingParts.{kind_on_line}
use Rattle.geometry.proofs.Ordering.{key_lt, overlap_is}
use Rattle.geometry.proofs.Contacts.{some_is, kind_rev₂}
use Rattle.index_edge.specs.Edge.{Edge, edge, eq_edge}
use Rattle.index_edge.proofs.Edges.{eq_edge_true}
use Rattle.intersection_set.specs.Within.{Proper}
use Rattle.machine.specs.Board.{kind_edges, meet_edges}
use Rattle.sweeps.specs.Sight.{Among, turn_to}
use Rattle.sweeps.specs.Query.{other, met}
use Rattle.sweeps.proofs.Ends.{apart, ends_differ, meet_comm, points_differ}

-- every point of a call is within the limits
at_near : (ps : Points) {i : ℕ} → i < ps.n → InRange (spots ps i)
at_near ps l = here_in_range (here ps.lent l)

-- ---- the ends of two edges
low : {n : ℕ} {e : Edge} → Proper n e → e.lo < n
low p = omega (arith, p.up, p.top)

-- another edge is met where their contact is one
pub met_is : (ps : Points) {e f : Edge} → Among ps.n (spots ps) e f → {r : Bool} → other e f ≡ true → r ≡ meet_edges (spots ps) e f → r ≡ met (spots ps) e f
met_is ps {e} {f} a t h = h ∙ meet_comm a.distinct a.first a.second ∙ sym (ap (λ (k : Bool). k && meet_edges (spots ps) f e) t)

pub either_in_range : (t : Bool) {p q : Point} → InRange p → InRange q → InRange (cond t p q)
either_in_range true h k = h
either_in_range false h k = k

-- ---- the edge between two points
module _ (ps : Points) {e : Edge} (v w : ℕ) (a : Among ps.n (spots ps) e (edge v w)) where
  pub from_below : v < ps.n
  from_below = (apart v w a.second).0

  pub to_below : w < ps.n
  to_below = (apart v w a.second).1

  -- points are equal where their numbers are
  told : (i j : ℕ) → i < ps.n → j < ps.n → eqb i j ≡ eq_point (spots ps i) (spots ps j)
  told i j li lj =
      let p = spots ps i in
      let q = spots ps j in
      both (eq_cases i j) (λ h. h.1 ∙ sym (eq_point_same p q (ap (spots ps) h.0)))
      (λ h. h.1 ∙ sym (both (true_or_false (eq_point p q)) (λ t. absurd (h.0 (a.distinct i j li lj (eq_point_true p q t)))) (λ t. t)))

  -- an end is shared where its number is
  pub share_is : ((eqb e.lo v || eqb e.lo w) || (eqb e.hi v || eqb e.hi w)) ≡ shared (spots ps e.lo) (spots ps e.hi) (spots ps v) (spots ps w)
  share_is =
      let l = low a.first in
      let h = a.first.top in
      λ t. (told e.lo v l from_below t || told e.lo w l to_below t) || (told e.hi v h from_below t || told e.hi w h to_below t)

  -- on one line: by the order keys of the first edge's ends, and of the two points
  pub overlap_by : {l h k m : ℤ} {r : Bool}
      → l ≡ order_key (min_point (spots ps e.lo) (spots ps e.hi)) → h ≡ order_key (max_point (spots ps e.lo) (spots ps e.hi))
      → k ≡ order_key (spots ps v) → m ≡ order_key (spots ps w) → r ≡ ((lt_z l k || lt_z l m) && (lt_z k h || lt_z m h))
      → r ≡ overlap (spots ps e.lo) (spots ps e.hi) (spots ps v) (spots ps w)
  overlap_by el eh ek em er =
      let p = spots ps e.lo in
      let q = spots ps e.hi in
      let c = spots ps v in
      let d = spots ps w in
      let hp = at_near ps (low a.first) in
      let hq = at_near ps a.first.top in
      let hc = at_near ps from_below in
      let hd = at_near ps to_below in
      let hl = either_in_range (lt_point p q) hp hq in
      let hh = either_in_range (lt_point p q) hq hp in
      let low_p = min_point p q in
      let high_p = max_point p q in
      er ∙ (λ t. (lt_z (el t) (ek t) || lt_z (el t) (em t)) && (lt_z (ek t) (eh t) || lt_z (em t) (eh t)))
      ∙ (λ t. (key_lt low_p c hl hc t || key_lt low_p d hl hd t) && (key_lt c high_p hc hh t || key_lt d high_p hd hh t))
      ∙ sym (overlap_is p q c d (ends_differ a.distinct a.first) (points_differ a.distinct v w a.second))

module _ (pt : ℕ → Point) (e : Edge) (v w : ℕ) where
  pub kind_is : kind (pt e.lo) (pt e.hi) (pt v) (pt w) ≡ kind_edges pt e (edge v w)
  unfolding kind_edges
  kind_is = both (true_or_false (ltb v w)) (λ t. rw t) (λ t. rw t (sym (kind_rev₂ (pt e.lo) (pt e.hi) (pt v) (pt w))))

  -- they meet where the kind is not none
  pub contact_is : some_contact (kind (pt e.lo) (pt e.hi) (pt v) (pt w)) ≡ meet_edges pt e (edge v w)
  unfolding meet_edges
  contact_is = ap some_contact kind_is

  -- and where the kind, its ends left out, is some
  pub some_met : is_some (without_ends (kind_edges pt e (edge v w))) ≡ meet_edges pt e (edge v w)
  unfolding meet_edges
  some_met = some_is (kind_edges pt e (edge v w))

  -- both on its line: it is met where they overlap
  pub kind_on_the_line : {tv tw : ℤ} {k l o : Bool} → tv ≡ turn_to pt e v → tw ≡ turn_to pt e w → k ≡ is_zero tv → l ≡ is_zero tw → (k && l) ≡ true
      → o ≡ overlap (pt e.lo) (pt e.hi) (pt v) (pt w)
      → then_some o Overlap ≡ without_ends (kind_edges pt e (edge v w))
  kind_on_the_line ev ew ek el t eo =
      kind_on_line (pt e.lo) (pt e.hi) (pt v) (pt w) eo (sym (ap₂ ◌&&◌ (ek ∙ ap is_zero ev) (el ∙ ap is_zero ew)) ∙ t) ∙ ap without_ends kind_is

  -- off the line of e neither point is an end of it, so that the edge between them is another
  pub other_off : is_zero (turn_to pt e v) ≡ false → is_zero (turn_to pt e w) ≡ false → other e (edge v w) ≡ true
  other_off hv hw =
      both (true_or_false (eq_edge (edge v w) e))
      (λ t. let same : edge v w ≡ e = eq_edge_true (edge v w) e t in
      absurd
      (both (true_or_false (ltb v w))
      (λ u. off v hv (ap (λ (f : Edge). f.lo) (sym (rw u at same))))
      (λ u. off w hw (ap (λ (f : Edge). f.lo) (sym (rw u at same))))))
      (λ t. rw t)
    where
      off : (u : ℕ) → is_zero (turn_to pt e u) ≡ false → e.lo ≡ u → ⊥
      off u h z = never (is_zero (turn_to pt e u)) (zero_is (turn_to pt e u) (ap (turn_to pt e) (sym z) ∙ turn_first (pt e.lo) (pt e.hi))) h
