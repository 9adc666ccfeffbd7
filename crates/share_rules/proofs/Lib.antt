pub mod Answers
pub mod Promises
pub mod Rising
mod Examples
