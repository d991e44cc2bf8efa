pub mod ByValueLemmas
pub mod AlgorithmLemmas
pub mod MarkLemmas
pub mod NumberLemmas
pub mod SignalLemmas
pub mod AmongLemmas
