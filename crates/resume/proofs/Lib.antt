pub mod Stores
pub mod Continuing
pub mod Renumbering
pub mod Images
pub mod BackAgain
pub mod Resuming
pub mod Checking
pub mod Calls
