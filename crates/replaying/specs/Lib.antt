pub mod Ledgers
pub mod Reading
pub mod Runs
