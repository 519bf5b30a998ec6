-- Laws of the calls that write books.
pub mod Started
pub mod Struck
pub mod Ways
pub mod Made
pub mod Answered
pub mod Previewing
