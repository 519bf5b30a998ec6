-- Laws of the bytes that the writer leaves.
pub mod Written
pub mod Solved
pub mod Drops
