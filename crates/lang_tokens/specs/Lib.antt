pub mod Seen
pub mod Pieces
pub mod Tokens
pub mod Meaning
