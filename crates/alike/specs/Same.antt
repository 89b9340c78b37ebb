-- Two boards of n points: the same points, the same tests, the same runs. Past the n points the boards may be anything.
use Rattle.std.specs.Prelude.{◌≡◌, Bool, List, ℕ, ◌<◌, pos}
use Rattle.std.specs.Int.Signed.{lt_z}
use Rattle.geometry.specs.Plane.{Point, turn, eq_point, lt_point, collinear}
use Rattle.polygon.specs.Ring.{IsRing}
use Rattle.machine.specs.Machine.{State, Traced, after, run_word, fresh}
use Rattle.machine.specs.Answer.{finish, answer_from, refusal, call}

-- the first n points of qt are those of pt
abbrev pub SamePoints : ℕ → (ℕ → Point) → (ℕ → Point) → Type 0
SamePoints n pt qt = (i : ℕ) → i < n → qt i ≡ pt i

-- The tests of which all others are made answer the same of the points of pt and of qt with the same numbers, all below n.
pub record SameTests (n : ℕ) (pt qt : ℕ → Point) : Type 0 where
  pub order : (x y : ℕ) → x < n → y < n → lt_point (qt x) (qt y) ≡ lt_point (pt x) (pt y)
  pub equal : (x y : ℕ) → x < n → y < n → eq_point (qt x) (qt y) ≡ eq_point (pt x) (pt y)
  pub left : (x y z : ℕ) → x < n → y < n → z < n → lt_z (pos 0) (turn (qt x) (qt y) (qt z)) ≡ lt_z (pos 0) (turn (pt x) (pt y) (pt z))
  pub right : (x y z : ℕ) → x < n → y < n → z < n → lt_z (turn (qt x) (qt y) (qt z)) (pos 0) ≡ lt_z (turn (pt x) (pt y) (pt z)) (pos 0)
  pub line : (x y z : ℕ) → x < n → y < n → z < n → collinear (qt x) (qt y) (qt z) ≡ collinear (pt x) (pt y) (pt z)

-- Each list of picks: the same answer; and for every choice of the record that a pick takes the same state (ring, records in dense order with ages and slots,
-- pushes, free slots) and the same log.
pub record SameRuns (n : ℕ) (pt qt : ℕ → Point) : Type 0 where
  pub calls : (short : Bool) (r cs : List ℕ) → call n qt short r cs ≡ call n pt short r cs
  pub refusals : (short many : Bool) (r : List ℕ) → refusal n qt short many r ≡ refusal n pt short many r
  pub states : (w : ℕ → State → ℕ) (r cs : List ℕ) → IsRing n r → after n qt w cs r ≡ after n pt w cs r
  -- the same for a run from any state, as one that was taken up
  pub runs : (w : ℕ → State → ℕ) (cs : List ℕ) (t : Traced) → IsRing n t.now.ring → run_word n qt w cs t ≡ run_word n pt w cs t
  pub answers : (w : ℕ → State → ℕ) (cs : List ℕ) (t : Traced) (k : ℕ) → IsRing n t.now.ring
      → answer_from n qt k (run_word n qt w cs t) ≡ answer_from n pt k (run_word n pt w cs t)
  -- a fresh search finds the same
  pub searches : (r : List ℕ) → IsRing n r → fresh n qt r ≡ fresh n pt r
  -- a ring is finished to the same loop
  pub loops : (r : List ℕ) → IsRing n r → finish n qt r ≡ finish n pt r
