pub mod Cells
pub mod Room
pub mod Lends
