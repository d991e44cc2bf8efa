pub mod Delays
pub mod OfValues
pub mod Asking
pub mod Arguments
