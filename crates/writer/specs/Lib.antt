pub mod Put
pub mod Run
