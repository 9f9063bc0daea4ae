pub mod RisingLaws
pub mod OutcomeLaws
pub mod WeightLaws
pub mod CountLaws
pub mod SeatLaws
pub mod DeskLaws
