pub mod Lists
pub mod Joining
pub mod Contraction
pub mod Composing
pub mod Options
