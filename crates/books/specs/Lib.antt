-- What the calls promise is in crate promises, specs/Says.antt; here are the two ways of a make and of a withdrawal.
pub mod Ways
