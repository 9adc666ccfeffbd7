pub mod UpTo
pub mod Turns
pub mod Products
