pub mod Putting
mod ToldLemmas
pub mod ArrivedValues
pub mod Closures
pub mod AnswerLemmas
pub mod WrittenRuns
pub mod RunLemmas
mod PictureLemmas
mod CheckLemmas
mod Completing
mod OwnChoices
mod MigrateLemmas
mod StormLemmas
mod HandingOn
mod MissingLemmas
