pub mod Seen
pub mod Answers
pub mod Coded
pub mod Reports
