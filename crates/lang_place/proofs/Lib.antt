pub mod Derive
pub mod Tables
pub mod Machine
pub mod NameLists
pub mod Counted
pub mod Progress
pub mod Fewer
