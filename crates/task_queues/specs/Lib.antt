pub mod BySource
pub mod OneList
