pub mod Limits
pub mod Units
pub mod Numbers
pub mod Classes
pub mod Refusals
pub mod Made
