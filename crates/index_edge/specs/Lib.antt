pub mod Edge
pub mod Number
