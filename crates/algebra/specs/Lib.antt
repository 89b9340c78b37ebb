-- The ordered ring ℤ
pub mod Integers
pub mod Order
pub mod Linear
pub mod Signs
pub mod Size
-- Polynomial identities by computation
pub mod Polynomials
pub mod Identities
-- Tests, tables, counts and sums
pub mod Cases
pub mod Ranges
pub mod Counting
pub mod Sums
