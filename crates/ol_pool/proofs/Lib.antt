pub mod Balances
pub mod Searches
pub mod Places
pub mod Dealing
pub mod Weighing
pub mod NoneLost
