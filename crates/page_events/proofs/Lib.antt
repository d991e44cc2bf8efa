pub mod IndexLemmas
pub mod KindLemmas
pub mod NextLemmas
