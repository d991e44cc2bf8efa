pub mod CellLemmas
