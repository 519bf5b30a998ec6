-- The definitions that the reply's contract cites.
pub mod Reply
pub mod Laws
pub mod Steps
