pub mod Closures
pub mod Firing
pub mod KeptAnswers
pub mod Overlay
pub mod RecordedPort
pub mod ToldClosure
pub mod ToldTable
