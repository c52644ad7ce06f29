pub mod Amounts
pub mod Chains
pub mod Changes
pub mod Four
pub mod Places
pub mod Sizes
