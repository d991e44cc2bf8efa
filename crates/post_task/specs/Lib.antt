pub mod Waiting
pub mod Levels
pub mod Heads
pub mod Tournament
pub mod Tree
pub mod InOrder
