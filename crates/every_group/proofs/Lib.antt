mod Averages
mod Orders
mod Recounting
mod Splitting
mod Together
