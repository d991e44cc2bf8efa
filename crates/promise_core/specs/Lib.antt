pub mod Seen
pub mod Held
pub mod Changes
pub mod Calls
pub mod Records
