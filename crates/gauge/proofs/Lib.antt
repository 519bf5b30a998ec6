-- Laws of the order of numbers, of the machine's comparisons, of tables of bands, of rounding, of the loops over bands,
-- and of the marked examples.
pub mod Orders
pub mod Reals
pub mod Ends
pub mod Rising
pub mod Placed
pub mod Fractions
pub mod Nearest
pub mod Units
pub mod Rounded
pub mod Loops
pub mod Examples
