pub mod Enclosure
pub mod Sizes
pub mod Pairs
