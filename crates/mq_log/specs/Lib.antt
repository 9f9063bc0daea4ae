pub mod Bodies
pub mod Force
pub mod Images
pub mod Open
pub mod Sound
pub mod State
pub mod Walk
