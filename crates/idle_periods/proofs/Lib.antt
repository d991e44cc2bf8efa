pub mod CallbackLemmas
