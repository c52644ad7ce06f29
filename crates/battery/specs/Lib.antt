pub mod Energy
pub mod Ratings
pub mod Steps
