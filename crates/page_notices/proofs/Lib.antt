pub mod Timing
pub mod Marking
pub mod Changing
pub mod Telling
pub mod Queuing
