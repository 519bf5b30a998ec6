-- Laws of the calls that read a book, of the rule of an entry, and of a plant's arrows: their order, whether there is
-- one, and the pass over those of a state.
pub mod Arriving
pub mod Consulted
pub mod Stepping
pub mod Rule
pub mod Ascending
pub mod Leading
pub mod Turns
