pub mod Amounts
pub mod Counts
pub mod Made
pub mod Types
pub mod Refusals
