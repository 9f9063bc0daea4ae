pub mod WayLaws
pub mod SpoilLaws
pub mod SightLaws
pub mod OpeningLaws
pub mod QuietLaws
