pub mod Lent
pub mod Said
pub mod Cases
pub mod Round
pub mod Turns
pub mod RunBack
