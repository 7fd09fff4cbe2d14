-- What clauses of public functions rest on.
pub mod Replays
pub mod Rounds
pub mod Laws
pub mod Orders
pub mod Turns
pub mod Stories
pub mod Same
-- What only contracts of private functions and proofs cite.
pub mod Played
pub mod Made
pub mod Meetings
pub mod Walked
