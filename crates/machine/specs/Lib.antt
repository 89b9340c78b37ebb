pub mod Board
pub mod Search
pub mod Machine
pub mod Answer
pub mod Demand3
pub mod Onward
pub mod Boards
