pub mod ByName
mod Examples
