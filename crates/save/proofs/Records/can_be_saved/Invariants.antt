-- The records that are lent.
use Rattle.save.specs.Saved.{records_of}
use Rattle.save.proofs.Records.can_be_saved.Given as goal

abbrev pub ghost-name_exactly : goal.ghost-name_exactly
ghost-name_exactly a = records_of a.read.0.now.live a.read.0.now.dense.now a.read.0.now.ends.now a.read.0.now.ages.now

abbrev pub ghost-sort_ages : goal.ghost-sort_ages
ghost-sort_ages a = records_of a.age.0.now.live a.age.0.now.dense.now a.age.0.now.ends.now a.age.0.now.ages.now
