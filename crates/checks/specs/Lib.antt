pub mod Checks
pub mod Least
pub mod Told
