-- The bytes of an image, and how they are read
pub mod Halves
pub mod Bytes
pub mod Reading
