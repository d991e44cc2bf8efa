pub mod Answered
pub mod Requesting
pub mod Rows
