pub mod Codes
pub mod InParallel
pub mod Items
pub mod Kept
pub mod Laws
pub mod Seen
pub mod Steps
pub mod Views
