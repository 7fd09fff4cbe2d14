pub mod Descents
pub mod Remaining
pub mod Nexts
pub mod Firsts
pub mod Rounds
pub mod Finals
