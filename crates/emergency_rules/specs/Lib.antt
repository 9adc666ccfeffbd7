pub mod Certifying
pub mod Exact
pub mod Answer
pub mod Asked
