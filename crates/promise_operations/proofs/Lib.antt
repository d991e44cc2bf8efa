pub mod Listed
pub mod Pure
