pub mod Certifying
pub mod Answers
pub mod Distance
pub mod Said
mod Examples
