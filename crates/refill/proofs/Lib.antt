pub mod Rising
pub mod Filling
pub mod Fitting
