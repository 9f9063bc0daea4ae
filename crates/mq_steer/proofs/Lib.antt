pub mod RestLaws
pub mod TurnLaws
pub mod UseLaws
pub mod PlanLaws
pub mod AlterLaws
pub mod AlterTies
pub mod ChangeLaws
pub mod DueLaws
