-- The definitions that every promise cites. Read them in this order: each file leans on those above it alone.
pub mod Sets
pub mod Plants
pub mod Kept
pub mod Books
pub mod Index
pub mod Calls
pub mod Strategies
pub mod Demands
pub mod ByIndex
pub mod Elsewhere
pub mod Rounds
pub mod Marked
pub mod MarkedStages
pub mod MarkedEdges
pub mod MarkedIndex
pub mod MarkedElsewhere
pub mod MarkedRounds
