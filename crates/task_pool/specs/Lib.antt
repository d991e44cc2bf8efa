pub mod Lists
pub mod Links
pub mod InRoom
pub mod Taken
