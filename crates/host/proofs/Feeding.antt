-- What `tour_feed` tells: a refusal where a check fails, else the feed of the loop.
use Rattle.std.proofs.Common.{◌≡◌, sym, false, List, [], ◌∷◌, ℕ, length, take, ℤ, arith}
use Rattle.refusal.specs.declared.Refusal.{Refusal}
use Rattle.refusal.specs.Number.{number_of}
use Rattle.refusal.proofs.Numbers.{some_number}
use Rattle.geometry.specs.Answers.{answered, refused as denied}
use Rattle.geometry.specs.Lent.{points, Lent}
use Rattle.polygon.proofs.EachOnce.{each_ring}
use Rattle.checks.specs.Checks.{any_below, first_four}
use Rattle.checks.proofs.Checking.{four_passed}
use Rattle.job.specs.Feed.{feed_of, Drawn}
use Rattle.job.proofs.Feeds.{ring_drawn}
use Rattle.host.specs.Numbers.{fed}

-- what a call is lent
module _ (n : ℕ) (x y : List ℤ) (r : List ℕ) where
  abbrev pub lengths : List ℕ
  lengths = length x ∷ length y ∷ length r ∷ []

  abbrev pub number : ℕ
  number = first_four n (points x y) (any_below n lengths) false (take n r)

  pub told_refused : (e : Refusal) → number_of e ≡ number → denied (number_of e) ≡ fed n x y r
  unfolding fed
  told_refused e h = grind (arith, some_number e)

  pub told_feed : {f : ℕ} → 0 ≡ number → f ≡ feed_of (points x y) (take n r) → answered f ≡ fed n x y r
  unfolding fed
  told_feed e h = grind arith

  pub drawn : 0 ≡ number → Lent n x y → Drawn x y (take n r)
  drawn e h = ring_drawn n x y (take n r) h (each_ring n (take n r) (four_passed n (points x y) (any_below n lengths) false (take n r) (sym e)).1)
