pub mod FoldActs
pub mod Lined
pub mod Ends
pub mod HandedOn
pub mod Steady
