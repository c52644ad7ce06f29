pub mod Added
pub mod Asked
pub mod Limits
pub mod Meanings
pub mod Ordered
pub mod Owed
