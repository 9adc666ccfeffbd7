pub mod Doublings
pub mod Knots
pub mod Slices
pub mod Rows
pub mod Turns
