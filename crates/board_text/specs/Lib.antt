-- What the fields of a line mean
pub mod Numbers
-- What a line means
pub mod Lines
