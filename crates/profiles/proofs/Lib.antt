pub mod Under
pub mod Asking
pub mod Told
