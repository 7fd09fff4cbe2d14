-- What clauses of public functions rest on.
pub mod Grammar
pub mod Texts
pub mod Laws
pub mod Numbered
pub mod Parsed
-- What only contracts of private functions and proofs cite.
pub mod Machine
pub mod Reading
pub mod Flat
pub mod FlatBytes
pub mod Steps
pub mod Depth
pub mod Resolving
pub mod Refusals
