pub mod ClassLemmas
pub mod FirstLemmas
pub mod IdleLemmas
pub mod InitLemmas
pub mod KeptLemmas
pub mod MapLemmas
pub mod StartedLemmas
pub mod TimerLemmas
