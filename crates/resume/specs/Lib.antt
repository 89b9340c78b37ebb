pub mod Image
pub mod AgesAside
pub mod Continued
pub mod Fit
pub mod Check
