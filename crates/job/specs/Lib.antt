-- The job file
pub mod Words
pub mod Steps
pub mod Buffers
pub mod Writing
pub mod Job
pub mod Encoded
pub mod Mirrored
-- What is printed
pub mod Ascii
pub mod Decimal
pub mod Feed
pub mod Loops
pub mod Tallied
pub mod Tallies
pub mod Text
