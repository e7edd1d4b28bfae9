mod Digits
mod Lines
pub mod Steps
mod Words
