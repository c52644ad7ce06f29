pub mod Going
pub mod ByGroups
