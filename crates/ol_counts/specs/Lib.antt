-- What clauses of public functions rest on.
pub mod Machines
pub mod Ordered
pub mod Sums
pub mod Waves
pub mod WaveAnswers
pub mod WaveLaws
pub mod Ways
pub mod Crossings
pub mod Tallies
pub mod Tables
pub mod Objects
pub mod Counted
pub mod NeedRules
pub mod NeedLaws
pub mod NeedExamples
pub mod Columns
-- What only contracts of private functions and proofs cite.
pub mod HeldMachines
pub mod ReadingCounted
pub mod CountsOfWaves
pub mod Tabled
