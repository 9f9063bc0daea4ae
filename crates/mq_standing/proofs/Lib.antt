pub mod StandLaws
pub mod EndLaws
