-- Laws of the layout, for the proofs of this crate and of the crates above it.
pub mod Joining
pub mod Lengths
pub mod Parts
pub mod Growing
pub mod Turns
pub mod Passed
pub mod Tables
pub mod Storing
pub mod Closing
pub mod Accepted
pub mod Served
pub mod Options
