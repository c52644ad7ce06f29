pub mod Quotients
pub mod Balances
