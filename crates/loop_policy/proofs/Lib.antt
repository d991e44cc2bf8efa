pub mod Runnables
pub mod Legal
pub mod Counting
pub mod Written
