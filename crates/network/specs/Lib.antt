pub mod Picture
pub mod Premises
pub mod Claims
pub mod Uses
pub mod Examples
