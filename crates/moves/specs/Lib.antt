pub mod Walk
pub mod Runs
pub mod Best
pub mod Beside
pub mod Plan
