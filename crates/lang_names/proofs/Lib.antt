pub mod Adding
pub mod Keys
pub mod Known
pub mod Firsts
pub mod LawLemmas
