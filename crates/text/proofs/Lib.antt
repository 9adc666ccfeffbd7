pub mod Digits
pub mod Signs
pub mod Equality
pub mod Decimal
pub mod RoundTrip
mod Examples
