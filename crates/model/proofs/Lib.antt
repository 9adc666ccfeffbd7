pub mod Rounding
pub mod Exponential
pub mod Series
pub mod Logarithm
pub mod Slice
pub mod Parts
pub mod FarSlice
pub mod Thetas
pub mod Integral
pub mod Share
pub mod Cable
pub mod Group
pub mod Enclosure
mod Examples
