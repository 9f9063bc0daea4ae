pub mod Edits
pub mod QueueLaws
pub mod EndLaws
pub mod CountLaws
pub mod PlaceLaws
pub mod StopLaws
