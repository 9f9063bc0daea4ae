pub mod BookLaws
pub mod CallerLaws
pub mod HandleLaws
pub mod ObjectLaws
pub mod PlacedLaws
pub mod GoneLaws
