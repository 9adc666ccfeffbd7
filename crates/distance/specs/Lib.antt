pub mod Around
pub mod Promised
