-- A word rotated
pub mod Rotated
