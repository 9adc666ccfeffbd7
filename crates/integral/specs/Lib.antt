pub mod Asked
pub mod Entries
pub mod Knots
