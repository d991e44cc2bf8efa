pub mod Entries
pub mod FrameInProgress
pub mod InTurn
