pub mod Exponential
pub mod Cutting
pub mod Value
pub mod Share
