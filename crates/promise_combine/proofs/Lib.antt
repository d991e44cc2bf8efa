pub mod Outcomes
pub mod Places
pub mod Answering
pub mod Heavy
pub mod Kept
pub mod Marking
