pub mod Stated
pub mod Apart
mod Examples
