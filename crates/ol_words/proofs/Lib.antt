mod SoFar
mod Folds
mod Taken
mod Digits
mod Rows
pub mod Shapes
mod Subcommands
mod Agreed
mod FixedRules
mod Views
mod AnyOrder
mod AnyVerb
mod AgreedVerbs
