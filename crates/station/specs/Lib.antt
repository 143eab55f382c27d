pub mod Event
pub mod Effect
pub mod Station
pub mod Parts
pub mod Said
pub mod Border
