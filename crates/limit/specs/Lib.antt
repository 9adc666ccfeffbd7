pub mod Preload
