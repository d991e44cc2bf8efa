pub mod Fields
pub mod Laws
pub mod Moments
pub mod Steps
