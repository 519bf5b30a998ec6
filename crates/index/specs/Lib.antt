-- The check of an index, what is gathered by one, and what the functions inside hand on.
pub mod Checked
pub mod Gathered
pub mod Steps
pub mod Marked
