-- The words of a start net meet the rule.
pub mod Ports
pub mod Words
pub mod Lists
pub mod Each
pub mod Ends
pub mod Counts
pub mod Sites
pub mod Stands
pub mod Refs
pub mod Keeps
