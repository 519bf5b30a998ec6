-- What the calls for C and Rust promise.
pub mod Flat
