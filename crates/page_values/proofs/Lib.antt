pub mod Lists
pub mod Digits
pub mod Texts
pub mod Joined
pub mod PlainLemmas
pub mod Sameness
pub mod SpellingsLemmas
pub mod OneDecimal
