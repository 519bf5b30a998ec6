-- Laws of a book's bytes, for the proofs of this crate and of the crates above it.
pub mod Rows
pub mod Gathered
pub mod Faults
