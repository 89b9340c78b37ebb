-- What a run leaves can be saved
-- and is saved
-- What is answered of a run
pub mod Stops
-- of a job's
pub mod Jobs
-- The seven-point board
pub mod Example
