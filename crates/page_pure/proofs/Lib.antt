pub mod SpelledTexts
pub mod NumberedSteps
mod Fitting
