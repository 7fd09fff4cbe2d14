-- What clauses of public functions rest on.
pub mod Tokens
pub mod Places
pub mod Wanted
pub mod Lets
pub mod Occurrences
pub mod Frees
-- What only contracts of private functions and proofs cite.
pub mod Gaps
pub mod Scanned
pub mod Scans
