pub mod Plane
pub mod Segment
pub mod Contact
pub mod Lent
pub mod Spots
pub mod Answers
