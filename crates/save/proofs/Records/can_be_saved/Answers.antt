-- `can_be_saved` meets its contract: what is read is what the definition reads.
use Rattle.std.proofs.Common.{rules, ◌≡◌, ℕ, List, [], ◌++◌, sym, ◌∙◌, length, arith}
use contract.BorrowLft.{◌⊑◌, ⊑_static, ⊑_meet}
use Rattle.save.specs.Saved.{records_of, Reads}
use Rattle.save.proofs.Reading.{reads, records_length}
use Rattle.save.proofs.Records.can_be_saved.Goals as goal

-- a closure that reads the records lives as long as they do
outlived : {j k l : List ℕ} → j ⊑ k → j ⊑ l → j ⊑ (k ++ (l ++ [] ++ (l ++ [] ++ (l ++ [] ++ []))) ++ [] ++ (k ++ (l ++ [] ++ (l ++ [] ++ (l ++ [] ++ []))) ++ []))
outlived a b =
    let m = ⊑_meet _ _ _ b (⊑_static _) in
    let x = ⊑_meet _ _ _ (⊑_meet _ _ _ a (⊑_meet _ _ _ m (⊑_meet _ _ _ m (⊑_meet _ _ _ m (⊑_static _))))) (⊑_static _) in
    ⊑_meet _ _ _ x x

pub name_exactly-requires : goal.name_exactly-requires
name_exactly-requires c κs within =
    let s = c.args.self in
    let (few, ld, le, la) = c.requires.read in
    let readable : Reads s.live s.dense.now s.ends.now s.ages.now = reads c.args.points.n (sym c.slots_fit.ensures ∙ c.if-not-slots_fit.false) few ld le la in
    let long : length (records_of s.live s.dense.now s.ends.now s.ages.now) ≡ s.live = records_length s.live s.dense.now s.ends.now s.ages.now readable.few in
    (outlived within.0 within.1.0, (c.requires.lent, (long, ((λ k h κs' p e r u l. (readable, h)), (λ k r h post. search rules)))))

pub sort_ages-requires : goal.sort_ages-requires
sort_ages-requires c κs within =
    let s = c.args.self in
    let (few, ld, le, la) = c.requires.read in
    let readable : Reads s.live s.dense.now s.ends.now s.ages.now = reads c.args.points.n (sym c.slots_fit.ensures ∙ c.if-not-slots_fit.false) few ld le la in
    let long : length (records_of s.live s.dense.now s.ends.now s.ages.now) ≡ s.live = records_length s.live s.dense.now s.ends.now s.ages.now readable.few in
    (outlived within.0 within.1.0, ((omega (arith, few, c.name_exactly.ensures.size, c.requires.lent.2), long), ((λ k h κs' p e r u l. (readable, h)), (λ k r h post. search rules))))

pub returns-clause-reads : goal.returns-clause-reads
returns-clause-reads c =
    let (few, ld, le, la) = c.requires.read in
    λ t. reads c.args.points.n (sym c.slots_fit.ensures ∙ c.if-not-slots_fit.false) few ld le la
