pub mod Reading
pub mod Answering
pub mod Shown
