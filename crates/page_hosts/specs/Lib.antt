pub mod Hosts
pub mod Deferred
pub mod OfPage
