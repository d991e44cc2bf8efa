pub mod Wanting
pub mod Plain
pub mod Aborting
