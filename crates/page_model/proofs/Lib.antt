mod Examples
pub mod Holding
pub mod Adding
pub mod GivenNumbers
pub mod Bounding
pub mod Stepping
pub mod ChosenAlone
