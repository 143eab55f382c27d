pub mod Message
pub mod Number
pub mod Allowed
pub mod Read
