pub mod Numbers
pub mod Query
