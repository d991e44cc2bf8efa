pub mod CallbackLemmas
pub mod NextLemmas
pub mod TurnLemmas
