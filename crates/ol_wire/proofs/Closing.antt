-- What closed words tell.
pub mod Entry
pub mod Lists
pub mod Table
pub mod Run
pub mod Told
pub mod Cells
pub mod Nodes
pub mod Start
pub mod Stands
pub mod NothingLeft
