-- What clauses of public functions rest on.
pub mod Frames
pub mod Matching
pub mod Heads
pub mod ReadTrees
pub mod Whole
pub mod Texts
pub mod Sources
pub mod Asking
pub mod Laws
pub mod Terms
pub mod PrintedLaws
-- What clauses of the functions rest on that read one place after another.
pub mod Reading
pub mod Skipping
pub mod Askers
-- What only contracts of private functions and proofs cite.
pub mod Groups
pub mod Fitting
pub mod Printing
pub mod Searches
pub mod NextPlaces
pub mod Walks
