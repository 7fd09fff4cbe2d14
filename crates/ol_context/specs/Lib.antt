-- What clauses of public functions rest on.
pub mod Contexts
pub mod Table
pub mod Paths
pub mod Ways
pub mod Shapes
pub mod HeldLevels
pub mod Crossed
pub mod WalkAnswers
pub mod Short
pub mod Facing
pub mod Asked
pub mod Open
pub mod Passed
pub mod OpenWalkAnswers
pub mod Laws
-- What only contracts of private functions and proofs cite.
pub mod Codes
pub mod Leaves
pub mod Crossings
pub mod Passing
pub mod Rows
