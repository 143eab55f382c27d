pub mod Hear
pub mod Needs
