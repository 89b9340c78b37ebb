pub mod Tests
pub mod Numbers
pub mod Runs
pub mod Lent
pub mod TakenUp
