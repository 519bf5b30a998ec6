pub mod Examples
pub mod Edges
pub mod Indexed
pub mod Elsewhere
pub mod Rounds
