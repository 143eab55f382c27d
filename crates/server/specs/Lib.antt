pub mod State
pub mod Event
pub mod Tick
pub mod Step
pub mod Settle
pub mod Border
pub mod Run
