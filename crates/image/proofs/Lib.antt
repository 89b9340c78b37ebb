-- Words of 16 bits, and signed ones of 32
pub mod Halves
pub mod Signed
-- Words that stand behind one another
pub mod Behind
-- The records' bytes, and what stands before them
pub mod Lines
pub mod Frames
-- Check 20
pub mod Checking
-- Parts of bytes, as words
pub mod Parts
-- What is written is read back, and what is read is written back
pub mod ReadBack
pub mod WriteBack
-- An image and check 20 by computation
pub mod Example
