pub mod Choice
pub mod Said
