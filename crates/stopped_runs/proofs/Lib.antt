-- The image that is saved, and the points that are read of it
pub mod Images
-- What is read of an input
pub mod Inputs
-- What is printed
pub mod Texts
