pub mod Feeding
pub mod Points
pub mod Asking
