pub mod Grammar
pub mod Fields
pub mod Calls
pub mod Settings
pub mod Lists
pub mod Lines
pub mod Unread
