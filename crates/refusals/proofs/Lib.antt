pub mod Choice
pub mod Told
