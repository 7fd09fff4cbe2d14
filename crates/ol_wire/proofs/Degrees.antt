-- After a ticket each port is at one end of an edge, each reached wire at two, nothing else at any.
pub mod Sums
pub mod Weights
pub mod Counts
pub mod Born
pub mod Nodes
pub mod After
