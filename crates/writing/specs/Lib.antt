-- What the writer leaves in the buffers lent.
pub mod Written
