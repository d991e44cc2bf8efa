pub mod Fields
pub mod Arrivals
pub mod Limits
pub mod SeenParts
pub mod Seen
pub mod Reading
pub mod Parts
