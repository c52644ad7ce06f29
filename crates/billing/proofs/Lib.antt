pub mod BillingLaws
mod Settlements
