-- Laws of the index: that it is what the sort gives, its bytes, and its exact check.
pub mod Ends
pub mod Bytes
pub mod Exact
pub mod Passing
pub mod Filling
pub mod Gathering
pub mod Taken
pub mod Examples
