pub mod EndLaws
pub mod LateLaws
pub mod CommitLaws
pub mod LoopLaws
