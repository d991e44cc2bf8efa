pub mod BackLemmas
pub mod CountedLemmas
pub mod DueLemmas
pub mod FirstLemmas
pub mod IdLemmas
pub mod OrderLemmas
pub mod RowLemmas
