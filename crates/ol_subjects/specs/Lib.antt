-- What clauses of public functions rest on.
pub mod Limited
pub mod Subjects
pub mod Readied
pub mod Strings
