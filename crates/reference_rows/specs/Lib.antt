pub mod Cells
pub mod Inputs
pub mod Counting
pub mod Results
pub mod Kinds
pub mod Verdicts
pub mod Answers
