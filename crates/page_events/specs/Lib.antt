pub mod Dispatching
pub mod Indexed
pub mod Seen
