pub mod Said
pub mod Passing
