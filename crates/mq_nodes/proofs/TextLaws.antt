-- Commands of which one thing holds, and with it another: those of a scenario.
use Rattle.std.specs.Prelude.{All}
use Rattle.std.proofs.lemmas.List.Elements.{All-weaker}
use Rattle.mq_history.specs.declared.scenario.Scenario.{Scenario}
use Rattle.mq_history.specs.declared.scenario.ScriptPart.{ScriptPart}
use Rattle.mq_history.specs.declared.scenario.Section.{Section}
use Rattle.mq_history.specs.declared.scenario.Step.{Step}
use Rattle.mq_history.specs.declared.scenario.Step.TheVariants as steps
use Rattle.mq_history.specs.declared.scripts.ScriptLine.{ScriptLine}
use Rattle.mq_history.specs.declared.scripts.ScriptLine.TheVariants as lines
use Rattle.mq_sc_parse.specs.declared.command.Command.{Command}
use Rattle.mq_nodes.specs.Texts.{AllFit, LineFits, StepFits}

module _ (P Q : Command → Type 0) (weaker : (c : Command) → P c → Q c) where
  line_weaker : (l : ScriptLine) → LineFits P l → LineFits Q l
  line_weaker (lines.Mqsc c) h = weaker c h
  line_weaker (lines.Mqconn name) h = tt
  line_weaker lines.Mqdisc h = tt
  line_weaker lines.Mqcmit h = tt
  line_weaker lines.Mqback h = tt
  line_weaker (lines.Mqopen handle name qmgr how) h = tt
  line_weaker (lines.Mqclose handle) h = tt
  line_weaker (lines.Mqput handle body o) h = tt
  line_weaker (lines.Mqput1 name qmgr body o) h = tt
  line_weaker (lines.Reply body o) h = tt
  line_weaker (lines.Mqget handle o) h = tt
  line_weaker lines.Crash h = tt
  line_weaker lines.Restart h = tt
  line_weaker (lines.Cut k) h = tt

  step_weaker : (s : Step) → StepFits P s → StepFits Q s
  step_weaker (steps.Do m c) h = weaker c h
  step_weaker (steps.Obey k) h = tt
  step_weaker (steps.Run k n) h = tt
  step_weaker (steps.Phase ks) h = tt
  step_weaker (steps.Pump n) h = tt
  step_weaker (steps.Handle k n) h = tt
  step_weaker (steps.Watch k) h = tt
  step_weaker (steps.Serve k n) h = tt
  step_weaker (steps.Crash m) h = tt
  step_weaker (steps.Restart m) h = tt
  step_weaker (steps.Cut m k) h = tt
  step_weaker (steps.Clock ms) h = tt

  pub all_weaker : (s : Scenario) → AllFit P s → AllFit Q s
  all_weaker s h = record {
    sections = All-weaker (λ (p : Section). All P p.commands) (λ (p : Section). All Q p.commands) (λ p a. All-weaker P Q weaker p.commands a) s.sections h.sections;
    scripts = All-weaker (λ (p : ScriptPart). All (LineFits P) p.lines) (λ (p : ScriptPart). All (LineFits Q) p.lines) (λ p a. All-weaker (LineFits P) (LineFits Q) line_weaker p.lines a) s.scripts h.scripts;
    steps = All-weaker (StepFits P) (StepFits Q) step_weaker s.steps h.steps;
  }
