pub mod Decimals
pub mod Readings
pub mod Clocks
pub mod Laws
pub mod Fields
pub mod Found
