-- That the models' pairs enclose the exact values.
pub mod Units
pub mod Places
pub mod Encloses
pub mod Exponential
pub mod Series
pub mod Slice
pub mod HeatingSlices
pub mod HeatingIntegral
pub mod Logarithm
pub mod SharePairs
pub mod Share
