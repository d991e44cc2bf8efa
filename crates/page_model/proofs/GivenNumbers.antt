-- Each number that a page uses was given out before, up to whole turns.
pub mod Growing
pub mod Signals
pub mod Parts
pub mod Pages
pub mod Evaluation
pub mod Combinators
pub mod Runs
pub mod Making
pub mod Operations
pub mod Tasks
pub mod Turns
