pub mod SplitLaws
pub mod CheckLaws
pub mod AskLaws
