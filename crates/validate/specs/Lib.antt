-- The checks of a drawn ring
pub mod Drawn
-- Edges that meet
pub mod Meetings
-- Half-open edges
pub mod HalfOpen
