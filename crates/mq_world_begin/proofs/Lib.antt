pub mod PlaceLaws
pub mod RestLaws
pub mod GivenLaws
