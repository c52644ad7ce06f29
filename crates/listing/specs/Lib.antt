pub mod Inputs
pub mod Taking
pub mod Requests
pub mod Listings
pub mod Refusals
pub mod Texts
