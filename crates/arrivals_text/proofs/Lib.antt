pub mod Parts
pub mod Rows
pub mod Steps
pub mod Pages
pub mod Within
pub mod Ordered
