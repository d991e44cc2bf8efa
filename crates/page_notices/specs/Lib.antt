pub mod Seen
pub mod Marks
pub mod Steps
pub mod State
pub mod Changes
pub mod Calls
