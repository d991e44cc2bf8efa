pub mod Begins
pub mod OfModel
pub mod Seen
pub mod Steps
pub mod Visits
pub mod AtRest
pub mod Calls
