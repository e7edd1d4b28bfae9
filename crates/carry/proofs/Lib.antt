pub mod Carrying
pub mod Latest
pub mod Searches
