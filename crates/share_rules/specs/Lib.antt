pub mod Pair
pub mod Promises
pub mod Answer
