-- Laws of what the desk answers, by itself and against consult, the marked answers, and laws of following a book.
pub mod Answers
pub mod Against
pub mod Examples
pub mod Sessions
