-- Numbers, bands and their table, and what the call comes to.
pub mod Numbers
pub mod Bands
pub mod Placed
pub mod MarkedBands
