pub mod VisitLemmas
pub mod ModelLemmas
pub mod NumberLemmas
pub mod RestLemmas
