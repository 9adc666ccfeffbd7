pub mod Around
pub mod Limits
pub mod Spread
pub mod Enclosed
pub mod Rising
