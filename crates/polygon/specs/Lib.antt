pub mod Ring
pub mod Edges
pub mod Change
pub mod Place
pub mod Lent
