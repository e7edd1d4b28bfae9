pub mod Steps
pub mod Rounding
pub mod Penalties
pub mod Charging
pub mod Reading
pub mod Figures
