-- The example of the job file's page
pub mod Example
-- What holds of a run that is not refused
pub mod Delivered
-- The counts by edge that are printed
pub mod Tangles
-- The buffers behind the reader
pub mod Jobs
-- The room for a job's points
pub mod Room
-- A refusal is told by its line
pub mod Told
-- A job's picks are few enough
pub mod Picks
