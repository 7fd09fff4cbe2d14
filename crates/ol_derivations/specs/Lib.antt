-- What clauses of public functions rest on.
pub mod Lines
pub mod Steps
pub mod NormalForms
pub mod Reductions
pub mod Verdicts
pub mod Derivations
pub mod DerivationLaws
pub mod Conversion
pub mod Heads
pub mod HeadLaws
pub mod Applied
pub mod Reads
pub mod Grades
pub mod GradeLaws
-- What only contracts of private functions and proofs cite.
pub mod StepsFound
pub mod Searches
pub mod PlacesOfPaths
pub mod Applications
pub mod StudentsSoFar
