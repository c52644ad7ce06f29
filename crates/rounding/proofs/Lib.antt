pub mod Integers
pub mod RoundingLaws
pub mod Euclid
