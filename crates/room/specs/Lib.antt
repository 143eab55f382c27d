pub mod Event
pub mod Refusal
pub mod Rules
