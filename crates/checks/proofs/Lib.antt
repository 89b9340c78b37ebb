pub mod Least
pub mod Checking
pub mod Alls
