pub mod Accounts
pub mod Bills
pub mod WorkedCases
pub mod Workings
