pub mod Checks
pub mod Group
pub mod Stated
pub mod InRange
pub mod Promises
