pub mod Untangling
pub mod Turning
