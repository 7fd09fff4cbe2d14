-- What clauses of public functions rest on.
pub mod Frozen
pub mod Turned
pub mod Worked
pub mod Working
pub mod Reduced
pub mod Counted
-- What only contracts of private functions and proofs cite.
pub mod OnceFrozen
pub mod Following
pub mod Drafts
pub mod Left
pub mod Works
pub mod Offered
pub mod Started
pub mod Passed
pub mod Found
pub mod Linked
pub mod Used
pub mod TurnEnds
