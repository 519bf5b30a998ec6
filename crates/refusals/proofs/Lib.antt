-- Laws of what calls return.
pub mod Refusals
pub mod Ahead
