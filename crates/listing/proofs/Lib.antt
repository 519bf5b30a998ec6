-- Laws of the texts, of writing them part by part, and of the count of ones; document 01's sample.
pub mod Writing
pub mod Digits
pub mod Texts
pub mod Ones
pub mod Sample
