pub mod Profile
pub mod Sets
pub mod Ask
pub mod Under
pub mod Said
