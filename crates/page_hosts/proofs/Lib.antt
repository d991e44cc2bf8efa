pub mod HostLemmas
pub mod DeferredLemmas
pub mod PageLemmas
