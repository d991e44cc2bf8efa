pub mod Decimal
pub mod Cutting
pub mod Tokens
pub mod Tree
pub mod Naming
pub mod Running
pub mod Setting
