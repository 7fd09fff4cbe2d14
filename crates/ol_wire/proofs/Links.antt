-- After a ticket the edges join what the net links.
pub mod Walk
pub mod Ends
pub mod Joins
pub mod New
pub mod Moved
pub mod After
