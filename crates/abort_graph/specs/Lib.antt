pub mod ByValue
pub mod Seen
pub mod Dependents
