pub mod Values
pub mod Tree
pub mod Events
pub mod ValueCode
pub mod Counts
pub mod Told
