-- Definitions that contracts inside this crate cite.
pub mod Checks
pub mod Arrows
