-- The steps of a turn but its links, and those on the live word: each keeps the rule.
pub mod Lists
pub mod Keep
pub mod Swept
pub mod Plain
pub mod Pair
pub mod Return
pub mod Cut
pub mod Hold
pub mod Turn
pub mod Live
pub mod LiveAllowed
pub mod Join
pub mod Allowed
pub mod Sight
pub mod Remembering
