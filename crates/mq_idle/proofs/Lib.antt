pub mod PushLaws
pub mod ItemLaws
pub mod GivenLaws
pub mod StillLaws
pub mod LookLaws
