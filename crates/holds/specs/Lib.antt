pub mod Hold
pub mod Stage
