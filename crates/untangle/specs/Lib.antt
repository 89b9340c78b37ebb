pub mod Few
pub mod Running
