-- What words hold, which part each is, and the edges that they stand for.
pub mod Lists
pub mod References
pub mod Places
pub mod Held
pub mod Alike
pub mod EdgeList
pub mod PlaceSums
pub mod Edges
pub mod Claimed
pub mod Exchange
pub mod Overlooked
