pub mod Runnable
pub mod Seen
pub mod Moments
