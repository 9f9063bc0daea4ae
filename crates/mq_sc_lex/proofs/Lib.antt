pub mod JoinLaws
pub mod CommandLaws
pub mod EndLaws
