pub mod Answered
pub mod Delayed
pub mod Queued
pub mod Tasks
pub mod Asked
pub mod Numbers
pub mod Parsing
pub mod Handles
