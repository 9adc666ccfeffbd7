pub mod Stated
pub mod Apart
