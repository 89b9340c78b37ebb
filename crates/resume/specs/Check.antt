-- Check 21 as a test, and what a call that takes up an image answers.
use Rattle.std.specs.Prelude.{Bool, not, ◌&&◌, cond, List, ℕ, eqb, leb, ltb, length, get_or}
use Rattle.algebra.specs.Ranges.{all_below}
use Rattle.geometry.specs.Plane.{Point}
use Rattle.intersection_set.specs.Store.{Rec, no_rec, counted}
use Rattle.machine.specs.Machine.{run_word, fresh, place}
use Rattle.machine.specs.Answer.{Answer, refused, answer_from, too_many, refusal}
use Rattle.resume.specs.Image.{Image, take_up, resumed}
use Rattle.resume.specs.AgesAside.{age_at}

-- the age at place k is none of those before it
abbrev pub new_age : List Rec → ℕ → Bool
new_age d k = all_below k (λ j. not (eqb (age_at d j) (age_at d k)))

-- no two ages are alike
abbrev pub ages_differ : List Rec → Bool
ages_differ d = all_below (length d) (new_age d)

-- ages are 0 up to the count less one: below the count, and no two alike
abbrev pub ages_all : List Rec → Bool
ages_all d = all_below (length d) (λ k. ltb (age_at d k) (length d)) && ages_differ d

-- how often l names the pair of the record r
abbrev pub times : Rec → List Rec → ℕ
times r l = counted r.e0 r.e1 l

-- the record r of d names a pair of l, and at most two records of d name it
abbrev pub once_or_twice : List Rec → List Rec → Rec → Bool
once_or_twice d l r = ltb 0 (times r l) && leb (times r d) 2

-- each record of d does
abbrev pub none_else : List Rec → List Rec → Bool
none_else d l = all_below (length d) (λ k. once_or_twice d l (get_or d k no_rec))

-- each pair of l is named by a record of d
abbrev pub none_missing : List Rec → List Rec → Bool
none_missing d l = all_below (length l) (λ k. ltb 0 (times (get_or l k no_rec) d))

-- the records' pairs are exactly the fresh search's, each once or twice
abbrev pub names_all : ℕ → (ℕ → Point) → List ℕ → List Rec → Bool
names_all n pt r d = none_else d (fresh n pt r) && none_missing d (fresh n pt r)

-- Check 21, taking up: ages, and the records' pairs.
abbrev pub fits : ℕ → (ℕ → Point) → Image → Bool
fits n pt m = ages_all (take_up m).store.dense && names_all n pt m.ring (take_up m).store.dense

-- Check 21, saving: ages need only differ.
abbrev pub savable : ℕ → (ℕ → Point) → List ℕ → List Rec → Bool
savable n pt r d = ages_differ d && names_all n pt r d

-- the checks 1 to 7 and 19, then 21
abbrev pub image_refusal : ℕ → (ℕ → Point) → Bool → Bool → Image → ℕ
image_refusal n pt short many m = cond (eqb (refusal n pt short many m.ring) 0) (cond (fits n pt m) 0 21) (refusal n pt short many m.ring)

-- A call that takes up the image m with the picks cs: its starting count is the image's record count.
abbrev pub take_up_call : ℕ → (ℕ → Point) → Bool → Image → List ℕ → Answer
take_up_call n pt short m cs =
    let a = answer_from n pt (length m.lines) (run_word n pt place cs (resumed m)) in
    cond (eqb (image_refusal n pt short (too_many cs) m) 0) a (refused (image_refusal n pt short (too_many cs) m))
