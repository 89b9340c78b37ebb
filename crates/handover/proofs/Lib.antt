pub mod Left
pub mod Saves
pub mod Handing
pub mod Filed
pub mod BackAgain
