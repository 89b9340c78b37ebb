pub mod Answering
pub mod Demand3Entries
pub mod AgesLeft
pub mod TanglesLeft
pub mod TreeLeft
