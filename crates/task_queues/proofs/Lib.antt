pub mod OneListLemmas
