-- Laws of the format's definitions, for the proofs of this crate and of the crates above it.
pub mod Words
pub mod Bits
pub mod Unions
pub mod Header
pub mod Parts
pub mod Stored
pub mod Stores
pub mod Faults
