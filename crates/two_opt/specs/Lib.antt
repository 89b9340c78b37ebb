pub mod Entry
pub mod Lent
