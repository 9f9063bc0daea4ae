pub mod PlaceLaws
pub mod FacingLaws
pub mod QuietLaws
pub mod TookLaws
pub mod EndLaws
pub mod OpenLaws
pub mod PartLaws
pub mod JoinLaws
