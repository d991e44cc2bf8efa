pub mod Trees
pub mod Sizes
pub mod Fits
pub mod Places
