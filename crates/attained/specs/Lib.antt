pub mod Asked
pub mod Sums
