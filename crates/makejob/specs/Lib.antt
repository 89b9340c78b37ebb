-- Picks drawn from a seed
pub mod Drawn
-- What is kept of the lines
pub mod Kept
-- What becomes of a line that is not read
pub mod Faults
