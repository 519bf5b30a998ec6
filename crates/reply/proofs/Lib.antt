-- Laws of the input's parts, of the masks in turn, of the lengths of input and answer, and demand 3 of the book listed.
pub mod Parts
pub mod Turns
pub mod Room
pub mod Long
pub mod Afresh
