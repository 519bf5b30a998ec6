-- The definitions that the listing's contracts cite.
pub mod Text
pub mod Buffers
