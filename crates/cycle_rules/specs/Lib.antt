pub mod Day
pub mod Heating
pub mod Factor
pub mod Exact
pub mod Answer
pub mod Asked
