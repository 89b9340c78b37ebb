pub mod Spans
pub mod Sight
pub mod Query
pub mod Sweep
pub mod Found
pub mod Several
