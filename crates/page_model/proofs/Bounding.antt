-- Why the bounds of recursions suffice, and how runs end.
pub mod Unrolling
pub mod Counting
pub mod Bounded
pub mod HostBounds
pub mod FirstBounds
pub mod Leaving
pub mod Fuel
pub mod Items
pub mod Following
pub mod OneDeep
pub mod Waiting
pub mod CountedTurns
pub mod Pending
pub mod Ending
