-- Definitions of mq_history, passed on to the crates above.
pub use Rattle.mq_history.specs.Scenarios as Scenarios
pub use Rattle.mq_history.specs.declared.acts.Act.TheVariants as ActVariants
pub use Rattle.mq_history.specs.declared.acts.Acted.TheVariants as ActedVariants
pub use Rattle.mq_history.specs.declared.calls.Actor.TheVariants as ActorVariants
pub use Rattle.mq_history.specs.declared.calls.Actor.{Actor}
pub use Rattle.mq_history.specs.declared.calls.Call.TheVariants as CallVariants
pub use Rattle.mq_history.specs.declared.calls.Call.{Call}
pub use Rattle.mq_history.specs.declared.calls.Chance.TheVariants as ChanceVariants
pub use Rattle.mq_history.specs.declared.calls.Chance.{Chance}
pub use Rattle.mq_history.specs.declared.calls.Entry.{Entry}
pub use Rattle.mq_history.specs.declared.calls.Reply.TheVariants as ReplyVariants
pub use Rattle.mq_history.specs.declared.calls.Reply.{Reply}
pub use Rattle.mq_history.specs.declared.history.History.{History}
pub use Rattle.mq_history.specs.declared.history.Mark.{Mark}
pub use Rattle.mq_history.specs.declared.scenario.CableLine.{CableLine}
pub use Rattle.mq_history.specs.declared.scenario.ManagerLine.{ManagerLine}
pub use Rattle.mq_history.specs.declared.scenario.MonitorLine.{MonitorLine}
pub use Rattle.mq_history.specs.declared.scenario.RulesPart.{RulesPart}
pub use Rattle.mq_history.specs.declared.scenario.Scenario.{Scenario}
pub use Rattle.mq_history.specs.declared.scenario.ScriptPart.{ScriptPart}
pub use Rattle.mq_history.specs.declared.scenario.Section.{Section}
pub use Rattle.mq_history.specs.declared.scenario.Step.TheVariants as StepVariants
pub use Rattle.mq_history.specs.declared.scenario.Step.{Step}
pub use Rattle.mq_history.specs.declared.scripts.Body.TheVariants as BodyVariants
pub use Rattle.mq_history.specs.declared.scripts.GetOptions.{GetOptions}
pub use Rattle.mq_history.specs.declared.scripts.PutOptions.{PutOptions}
pub use Rattle.mq_history.specs.declared.scripts.ScriptLine.TheVariants as ScriptLineVariants
pub use Rattle.mq_history.specs.declared.scripts.ScriptLine.{ScriptLine}
pub use Rattle.mq_history.specs.declared.story.Apart.TheVariants as ApartVariants
pub use Rattle.mq_history.specs.declared.story.Apart.{Apart}
pub use Rattle.mq_history.specs.declared.story.Conflict.{Conflict}
pub use Rattle.mq_history.specs.declared.story.ManagerPlaces.{ManagerPlaces}
