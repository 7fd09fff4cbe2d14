-- What clauses of public functions rest on.
pub mod NamedTexts
pub mod Afters
pub mod Left
pub mod Wanted
pub mod Others
pub mod Explained
pub mod Judged
pub mod Objects
pub mod Tallies
-- What only contracts of private functions and proofs cite.
pub mod Followed
pub mod Found
pub mod Fields
pub mod Reasons
pub mod Besides
pub mod Explanations
