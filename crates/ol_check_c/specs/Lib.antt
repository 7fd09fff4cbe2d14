-- What clauses of public functions rest on.
pub mod Verdicts
pub mod Asked
-- What only contracts of private functions and proofs cite.
pub mod Found
