-- What clauses of public functions rest on.
pub mod Chains
pub mod Demands
pub mod Laws
pub mod Answers
-- What only contracts of private functions and proofs cite.
pub mod Asking
pub mod Readings
pub mod Chaining
