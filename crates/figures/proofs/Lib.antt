pub mod Cases
pub mod Reckoning
pub mod Workings
