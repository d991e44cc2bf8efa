pub mod Symbols
pub mod Grammar
pub mod Parts
pub mod Deciding
pub mod Faults
pub mod Reading
pub mod Laws
