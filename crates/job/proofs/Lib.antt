-- Buffers of which a part is written, and the writer
pub mod Written
pub mod Writing
-- Words: their bytes, and two's complement
pub mod Bytes
pub mod TwosComplement
-- Micrometres to steps
pub mod Rounding
-- Areas that share bytes
pub mod Areas
-- The reader's checks, and what holds of an accepted job
pub mod Refusals
pub mod ReadJobs
-- The encoder's bytes, and that the reader reads back what was written
pub mod Encoding
pub mod RoundTrip
-- Mirrored jobs are read as mirrored points
pub mod Mirrors
-- The text of numbers, lines and answers
pub mod Decimals
pub mod Lines
-- The feed of an edge and of a loop
pub mod Feeds
pub mod SameEdges
-- The example of the job file's page
pub mod Example
