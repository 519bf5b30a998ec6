-- What the packed arrays hold, and what the steps of the packing hand on.
pub mod Packed
pub mod Steps
