-- What clauses of public functions rest on.
pub mod Redexes
pub mod Reductions
pub mod Ends
pub mod Laws
-- What only contracts of private functions and proofs cite.
pub mod Searches
