-- A ticket below the fuel keeps the rule.
pub mod Journal
pub mod Lists
pub mod Refs
pub mod Words
pub mod Drawn
pub mod Numbers
pub mod Cells
pub mod Block
pub mod Fields
pub mod Seats
pub mod Reached
pub mod Event
pub mod NetBut
pub mod Edges
pub mod Keeps
