mod Settlements
mod Faults
pub mod Going
pub mod Rounds
pub mod Threads
pub mod NextLines
pub mod Standing
mod Pumping
mod Binding
mod FaultyPumps
mod Serving
mod Phases
mod OneManager
mod Waiting
mod Parts
mod RowsLedger
