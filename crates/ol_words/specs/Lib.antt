-- What clauses of public functions rest on.
pub mod Texts
pub mod Lines
pub mod Settings
pub mod Asked
pub mod Jobs
-- What only contracts of private functions and proofs cite.
pub mod Views
pub mod Once
pub mod Found
pub mod Command
