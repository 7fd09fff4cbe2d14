pub mod Onward
pub mod Judging
mod OpenAfter
