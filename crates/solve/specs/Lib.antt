-- What the solver's arrays stand for.
pub mod Tabled
pub mod Given
pub mod Reached
pub mod Rows
pub mod Graphed
pub mod Stages
