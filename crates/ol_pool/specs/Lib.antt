-- What clauses of public functions rest on.
pub mod Looks
pub mod Pools
pub mod Weights
pub mod Deques
pub mod Owned
pub mod Handed
pub mod Hands
-- What only contracts of private functions and proofs cite.
pub mod Fixed
pub mod Counted
