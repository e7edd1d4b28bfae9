pub mod Days
pub mod Kinds
pub mod Terms
pub mod Reports
pub mod Reasons
pub mod UsedDays
pub mod WhoFails
