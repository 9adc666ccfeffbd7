pub mod Fraction
pub mod Signed
pub mod Integer
pub mod Rounding
pub mod Largest
