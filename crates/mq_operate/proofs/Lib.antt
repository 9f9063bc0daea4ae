pub mod PlaceLaws
pub mod TellLaws
pub mod SenderLaws
pub mod StartLaws
pub mod ReceiverLaws
pub mod CloseLaws
pub mod SeatLaws
pub mod PlacedLaws
