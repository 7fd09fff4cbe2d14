-- What clauses of public functions rest on.
pub mod Letters
pub mod Counts
-- What only contracts of private functions and proofs cite.
pub mod Held
pub mod Tables
pub mod Steps
