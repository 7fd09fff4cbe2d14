-- What clauses of public functions rest on.
pub mod Translation
pub mod Sizes
pub mod Names
pub mod Laws
-- What only contracts of private functions and proofs cite.
pub mod Growth
