pub mod Walk
pub mod Sizes
pub mod AtRecord
pub mod Steps
pub mod Distance
pub mod Said
mod Examples
