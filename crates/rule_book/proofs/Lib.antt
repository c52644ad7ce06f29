pub mod Following
pub mod Knowing
pub mod Parts
