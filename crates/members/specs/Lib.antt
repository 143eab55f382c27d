pub mod Member
pub mod Mark
