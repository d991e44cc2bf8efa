-- Folds by steps are the nested callbacks, up to whole runs.
pub mod Reaching
pub mod Twin
pub mod Evaluation
pub mod Dependents
pub mod PlainOperations
pub mod Hosting
pub mod Pieces
pub mod Tickets
pub mod Agreeing
pub mod Runs
