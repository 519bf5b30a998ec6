-- Demands 2 and 3 and requests (vi) to (x) proved, and the laws of books that lead there. Each file leans on
-- those above it alone.
pub mod Plants
pub mod Rows
pub mod Rules
pub mod Winners
pub mod Staying
pub mod Words
pub mod Same
pub mod Picks
pub mod Books
pub mod Service
pub mod Demand2
pub mod Afresh
pub mod Demand3
pub mod InTurn
pub mod Returning
pub mod ByIndex
pub mod Elsewhere
