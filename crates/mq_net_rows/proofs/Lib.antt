mod LaneLaws
mod QueueLaws
mod SeatLaws
pub mod StoreLaws
pub mod RollLaws
