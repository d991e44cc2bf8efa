pub mod Following
pub mod Unlimited
pub mod AskOrder
mod FuelFalls
