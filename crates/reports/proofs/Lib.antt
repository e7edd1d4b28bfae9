pub mod Between
pub mod Using
pub mod Failing
pub mod Backwards
