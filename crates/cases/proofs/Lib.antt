pub mod Shares
pub mod Rises
pub mod Factors
pub mod Currents
pub mod Claim
pub mod Demands
