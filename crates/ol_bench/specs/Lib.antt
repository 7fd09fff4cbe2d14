-- What clauses of public functions rest on.
pub mod Inputs
pub mod Traces
pub mod Commands
pub mod Writing
pub mod Statuses
-- What only contracts of private functions and proofs cite.
pub mod Taking
pub mod Piecewise
