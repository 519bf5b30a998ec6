-- What the public calls answer and promise, rows as they are read, demand 2 of what they wrote, a preview against the
-- withdrawal, demand 3 over the calls as they go, a list of withdrawals against the single ones, a return against a
-- making and a withdrawal, the calls by an index against the plain ones, rows of two plants' books, moves taken from the
-- calls, and books followed step by step.
pub mod Answers
pub mod Says
pub mod Rows
pub mod Written
pub mod Previews
pub mod Traces
pub mod InTurn
pub mod Returning
pub mod Indexed
pub mod Elsewhere
pub mod Walks
pub mod Steps
