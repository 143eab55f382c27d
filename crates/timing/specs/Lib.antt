pub mod Limits
pub mod Reading
pub mod Lease
pub mod Settings
pub mod Phase
