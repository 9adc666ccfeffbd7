pub mod Wanted
pub mod Hours
