pub mod Rise
pub mod Exact
pub mod Answer
pub mod Walk
