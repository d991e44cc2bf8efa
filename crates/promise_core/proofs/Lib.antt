pub mod Records
pub mod HeldLemmas
pub mod Telling
pub mod Sequences
