pub mod ComingLaws
pub mod AboveLaws
pub mod FarLaws
pub mod StepLaws
pub mod EndLaws
pub mod BackLaws
pub mod from_restart
