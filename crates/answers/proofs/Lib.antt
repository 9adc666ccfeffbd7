mod Answered
mod Examples
