-- What the loops over slices leave.
pub mod Lists
