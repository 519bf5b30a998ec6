-- What is read back from a book's bytes is what was written; what an accepted plant and accepted calls give; masks.
pub mod Masks
pub mod Sizes
pub mod Header
pub mod Entries
pub mod Fits
pub mod Bytes
pub mod Accepted
pub mod Unique
pub mod Faults
pub mod Asked
pub mod Order
pub mod Indexed
