-- Laws of the lists that the loops leave, for their proofs and for callers.
pub mod Sieves
pub mod Marks
pub mod Guards
pub mod Gathered
pub mod Ordered
