pub mod Accounts
pub mod Holding
pub mod Noting
pub mod Lists
