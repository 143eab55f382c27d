pub mod Modes
pub mod Place
