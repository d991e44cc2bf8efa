pub mod Beside
mod OpenFolds
