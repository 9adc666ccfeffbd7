pub mod Pair
pub mod Operations
pub mod Promises
