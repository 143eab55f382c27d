pub mod Event
pub mod Refusal
pub mod Judge
