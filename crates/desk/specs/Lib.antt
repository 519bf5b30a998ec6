-- Request (xii): what the desk answers, what following a book by it comes to, and marked answers.
pub mod Desk
pub mod Followed
pub mod MarkedDesk
