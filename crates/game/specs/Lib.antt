-- What the walk gives, what its steps hand on, and marked examples.
pub mod Walked
pub mod Steps
pub mod Marked
pub mod Game
pub mod Packed
pub mod Marks
pub mod Cuts
pub mod Draining
pub mod Playing
