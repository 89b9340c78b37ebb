-- A run that was taken up can be told
pub mod Taken
pub mod Telling
-- What is read of an input
pub mod Inputs
-- The seven-point board
pub mod Example
