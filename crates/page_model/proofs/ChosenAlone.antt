-- What a page does gives no line with a choice; so a run is determined by the choices in its lines.
pub mod Evaluation
pub mod Runs
pub mod Operations
pub mod Tasks
pub mod Replaying
pub mod FurtherChoices
pub mod RunsAlike
