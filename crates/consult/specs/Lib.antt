-- Definitions that contracts inside this crate cite. What the calls promise is in crate promises, specs/Says.antt.
pub mod Checks
