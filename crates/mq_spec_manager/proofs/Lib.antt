pub mod Script
mod RowsCalls
mod RowsRefusals
mod RowsBackouts
mod RowsRestarts
mod RowsMeetings
mod Laws
mod LostWrites
pub mod Accepted
mod RowsChannels
mod RowsStanding
