pub mod Calls
pub mod Export
pub mod Json
pub mod Seen
pub mod Ends
pub mod EndsSeen
pub mod Reading
