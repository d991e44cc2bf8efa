pub mod Collected
pub mod Told
pub mod Known
pub mod Knows
pub mod Checks
pub mod Laws
