-- Three loops by computation
pub mod Example
-- What is known of a ring by what is found of it, and the texts of that
pub mod Found
-- The pads in steps, and their ring
pub mod Rounded
