pub mod Storm
pub mod Resolved
