pub mod PostLaws
pub mod LetterLaws
