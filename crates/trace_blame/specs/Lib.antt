pub mod Turns
pub mod Blame
pub mod Walked
pub mod Seen
