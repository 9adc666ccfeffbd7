pub mod Acceptance
mod Examples
