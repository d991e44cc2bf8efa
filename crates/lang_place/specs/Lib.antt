pub mod Terminals
pub mod Forms
pub mod Begun
pub mod Expecting
pub mod NameSets
pub mod Counting
pub mod Held
pub mod Place
