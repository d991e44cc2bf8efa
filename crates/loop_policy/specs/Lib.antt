pub mod Views
pub mod Policies
pub mod Rules
pub mod Choosing
pub mod Laws
