-- Numbers read digit by digit, up to a cap
pub mod Capped
-- Printed and read numbers
pub mod ReadsBack
-- One more call of an iterator
pub mod Taken
