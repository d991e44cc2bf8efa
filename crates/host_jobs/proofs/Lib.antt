pub mod Changes
pub mod FiringCases
pub mod Kept
pub mod OverlayLemmas
