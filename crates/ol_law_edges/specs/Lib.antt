-- What clauses of public functions rest on.
pub mod Edges
pub mod Laws
