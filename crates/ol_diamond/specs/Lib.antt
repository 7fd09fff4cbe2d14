-- What clauses of public functions rest on.
pub mod Births
pub mod Runs
pub mod Laws
pub mod Squares
pub mod OneThread
pub mod Weights
pub mod Waves
pub mod WaveLaws
pub mod Replaying
pub mod PortWeights
