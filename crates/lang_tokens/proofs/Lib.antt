pub mod Texts
pub mod PieceLemmas
pub mod MeaningLemmas
pub mod ReadingLemmas
pub mod HeldLemmas
pub mod CutLemmas
pub mod BadLemmas
pub mod EndLemmas
