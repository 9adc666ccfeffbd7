pub mod Crossing
mod Examples
