-- What clauses of public functions rest on.
pub mod Parts
pub mod Rules
pub mod Pairing
pub mod Graph
pub mod Nets
pub mod Pairs
pub mod Numbered
pub mod Build
pub mod Joins
pub mod Replace
pub mod Indexes
pub mod PartTexts
-- What only contracts of private functions and proofs cite.
pub mod Tabling
pub mod Rewired
pub mod Scans
pub mod Linking
