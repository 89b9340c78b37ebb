pub mod Ending
pub mod Picking
