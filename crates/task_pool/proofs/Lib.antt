pub mod CellTests
pub mod Places
pub mod Linked
pub mod Pools
pub mod Changes
