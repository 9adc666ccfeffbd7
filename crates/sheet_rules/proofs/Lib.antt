pub mod BigEndian
pub mod RightLength
pub mod HeaderChecks
pub mod RecordChecks
pub mod Turns
pub mod ChainTurns
pub mod NeighbourChecks
pub mod EitherChain
pub mod SheetChecks
mod Examples
mod ExamplesOfNeighbours
