pub mod Numbered
pub mod Decimals
