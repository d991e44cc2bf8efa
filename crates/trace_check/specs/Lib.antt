pub mod Verdicts
pub mod Collected
pub mod Outcomes
pub mod Replays
pub mod TextKept
pub mod Scanned
pub mod Judged
