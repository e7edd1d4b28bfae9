pub mod Carried
pub mod Layer
pub mod Laws
pub mod Own
