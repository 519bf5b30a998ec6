-- Laws of what the public calls promise, and what that comes to.
pub mod Read
pub mod Determined
pub mod Indexed
pub mod Listed
pub mod Rows
pub mod Previewed
pub mod Traces
pub mod Elsewhere
pub mod InTurn
pub mod Returning
pub mod Written
pub mod Steps
pub mod Walked
pub mod Demands
pub mod Numbered
