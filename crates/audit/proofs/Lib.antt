pub mod Marking
pub mod Deciding
pub mod Ordering
