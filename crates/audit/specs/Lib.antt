pub mod Marks
pub mod Sorted
