pub mod Found
pub mod Entering
