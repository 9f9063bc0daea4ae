-- The commands of a scenario, each of which a node can be given.
use Rattle.std.specs.Prelude.{All}
use Rattle.mq_history.specs.declared.scenario.Scenario.{Scenario}
use Rattle.mq_history.specs.declared.scenario.ScriptPart.{ScriptPart}
use Rattle.mq_history.specs.declared.scenario.Section.{Section}
use Rattle.mq_history.specs.declared.scenario.Step.{Step}
use Rattle.mq_history.specs.declared.scenario.Step.TheVariants as steps
use Rattle.mq_history.specs.declared.scripts.ScriptLine.{ScriptLine}
use Rattle.mq_history.specs.declared.scripts.ScriptLine.TheVariants as lines
use Rattle.mq_sc_parse.specs.declared.command.Command.{Command}

-- the command of a step, and that of a script's line, if it has one
abbrev pub StepFits : (Command → Type 0) → Step → Type 0
StepFits T (steps.Do m c) = T c
StepFits T _ = Unit {0}

abbrev pub LineFits : (Command → Type 0) → ScriptLine → Type 0
LineFits T (lines.Mqsc c) = T c
LineFits T _ = Unit {0}

-- all commands of a scenario
pub record AllFit (T : Command → Type 0) (s : Scenario) : Type 0 where
  pub sections : All (λ (p : Section). All T p.commands) s.sections
  pub scripts : All (λ (p : ScriptPart). All (LineFits T) p.lines) s.scripts
  pub steps : All (StepFits T) s.steps
