pub mod Seen
pub mod Coded
pub mod Queued
pub mod Standing
pub mod Asking
pub mod PageLaws
pub mod Held
