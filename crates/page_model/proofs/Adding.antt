-- What happens on a page only adds lines, up to whole runs.
pub mod Lines
pub mod Combining
pub mod Combinators
pub mod Runs
pub mod Noticing
pub mod Operations
pub mod Turns
pub mod Acts
