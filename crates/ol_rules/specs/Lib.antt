-- What clauses of public functions rest on.
pub mod Rewriting
pub mod Counting
pub mod Steps
pub mod Listed
pub mod Names
pub mod Runs
pub mod Laws
pub mod Contracting
pub mod UnderWay
pub mod Waiting
-- What only contracts of private functions and proofs cite.
pub mod Actors
pub mod Counted
pub mod Running
pub mod BornLists
