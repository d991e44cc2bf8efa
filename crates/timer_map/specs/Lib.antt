pub mod Counted
pub mod Due
pub mod InOrder
pub mod Kept
pub mod Rows
pub mod Seen
