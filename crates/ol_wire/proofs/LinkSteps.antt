-- The steps that make a link: each keeps the rule.
pub mod Lists
pub mod Keep
pub mod Edges
pub mod Sites
pub mod Spread
pub mod Exchange
pub mod Allowed
pub mod Publish
pub mod Cells
pub mod All
