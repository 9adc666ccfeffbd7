pub mod Day
pub mod Heating
pub mod FactorTest
pub mod Answers
pub mod ReferenceHour
pub mod HourByHour
pub mod Distance
pub mod Hottest
pub mod Shares
pub mod NeverPastOne
pub mod UnderTheCap
pub mod Said
pub mod NotNegative
mod Examples
