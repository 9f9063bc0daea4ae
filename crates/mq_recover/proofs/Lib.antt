pub mod SideLaws
pub mod StrikeLaws
pub mod WalkLaws
