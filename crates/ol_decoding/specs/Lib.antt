-- What clauses of public functions rest on.
pub mod Values
pub mod Told
pub mod Numerals
pub mod Shown
pub mod ValueLaws
pub mod Parts
pub mod ToldTrees
pub mod TreeLaws
pub mod Lines
pub mod Trails
pub mod Reached
pub mod WalkAnswers
-- What only contracts of private functions and proofs cite.
pub mod Decoders
pub mod NormalFormsOfNets
pub mod Chains
pub mod Chaining
pub mod Asking
pub mod TreesOfNets
pub mod Pieces
pub mod AddedLines
