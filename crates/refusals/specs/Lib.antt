-- The refusals are those of crate statements, specs/Calls.antt; here are those of their tests that are made ahead of loading.
pub mod Ahead
