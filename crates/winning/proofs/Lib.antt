-- Laws of strategies over any set of states, and of goals sought along any sequence of states. Assumes nothing.
pub mod Runs
pub mod Winners
pub mod Goals
pub mod Seeking
pub mod Following
pub mod Fewest
