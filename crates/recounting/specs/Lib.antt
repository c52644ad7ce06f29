pub mod Counting
pub mod Recounting
pub mod Texts
