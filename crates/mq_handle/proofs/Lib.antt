pub mod RulingLaws
pub mod LetterLaws
pub mod TreatLaws
pub mod TurnLaws
pub mod ClimbLaws
