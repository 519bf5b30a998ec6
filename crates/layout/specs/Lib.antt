-- The layout's lists, and what a pass over the arrows has laid out.
pub mod Layout
pub mod Loading
pub mod Passing
