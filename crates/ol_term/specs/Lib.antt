-- What clauses of public functions rest on.
pub mod Trees
pub mod NameLists
pub mod NameIndexes
pub mod BinderNames
pub mod BinderLaws
pub mod Texts
pub mod Generated
-- What only contracts of private functions and proofs cite.
pub mod BinderNumbers
pub mod Printing
pub mod NameFinds
