pub mod Boxes
pub mod Tree
pub mod Lanes
pub mod Query
pub mod Within
