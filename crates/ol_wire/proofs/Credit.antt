-- The live word says what it should, and where it is 0 no active pair is left.
pub mod Sums
pub mod Words
pub mod Keep
pub mod Steps
pub mod Seats
pub mod Quiet
pub mod Owed
pub mod Opening
