-- Laws of a plant's graph, and of lists packed one after the other.
pub mod Rows
pub mod Groups
pub mod Positions
pub mod Links
pub mod Packing
pub mod Building
pub mod Lent
