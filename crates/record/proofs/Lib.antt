pub mod BigEndian
pub mod Ways
pub mod Short
pub mod Told
pub mod Said
