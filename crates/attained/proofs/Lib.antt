pub mod Parts
pub mod Sources
pub mod Group
