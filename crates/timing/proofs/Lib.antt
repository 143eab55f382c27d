pub mod Ranges
pub mod Wait
pub mod Phases
pub mod Clock
pub mod Signed
pub mod Ticks
pub mod Said
pub mod Choice
