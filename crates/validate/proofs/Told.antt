-- What `validate` answers says of the edges: contact is asked only of rings that a call accepts, and of those it decides.
use mathlib.Core.Path.{◌≡◌, refl}
use mathlib.Core.Bool.{Bool, false}
use mathlib.Core.List.{List}
use Prim.Native.Nat.{ℕ}
use lib.IntN.{ℤ}
use lib.ListN.{take}
use Rattle.geometry.specs.Plane.{Point}
use Rattle.geometry.specs.Lent.{points}
use Rattle.machine.proofs.Accepted.{Accepted, accepted}
use Rattle.validate.specs.Drawn.{Check, passed, meeting, too_short, validated}
use Rattle.validate.specs.Meetings.{SomeMeet, FirstMeeting}
use Rattle.validate.specs.HalfOpen.{SomeShare}
use Rattle.validate.proofs.Deciding.{contact_decides, contact_half_open, contact_first}
use Rattle.validate.proofs.Passing.{Reached, reached}

module _ (n : ℕ) (x y : List ℤ) (ring : List ℕ) where
  abbrev pt : ℕ → Point
  pt = points x y

  abbrev r : List ℕ
  r = take n ring

  abbrev short : Bool
  short = too_short n x y ring

  start : {c : Check} → Reached n pt r short c → Accepted n pt short false r
  start q = (accepted n pt short false r).0 q.start

  -- Of a ring that passes no two edges meet, and no two half-open ones have a place in common.
  pub passed_apart : validated n x y ring ≡ passed → (¬ (SomeMeet n pt r)) × (¬ (SomeShare n pt r))
  unfolding validated
  passed_apart h =
      let q = reached n pt r short passed refl h in
      let a = start q in
      ((contact_decides n pt r a.board.three a.board.distinct a.ring).0 q.contact, (contact_half_open n pt r a.board.three a.board.distinct a.ring).0 q.contact)

  -- The two edges that refusal 15 names are the first that meet.
  pub meeting_first : (i j : ℕ) → validated n x y ring ≡ meeting i j → FirstMeeting n pt r i j
  unfolding validated
  meeting_first i j h =
      let q = reached n pt r short (meeting i j) refl h in
      let a = start q in
      (contact_first n pt r a.board.three a.board.distinct a.ring i j).0 q.contact
