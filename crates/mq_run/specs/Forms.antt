-- What is written of a run.
use Rattle.std.specs.Prelude.{◌≡◌, ℕ, List}
use Rattle.mq_ending.specs.declared.ending.Ending.{Ending}
use Rattle.mq_ending.specs.Verdicts.{verdict, verdict_number}
use Rattle.mq_history.specs.declared.history.History.{History}
use Rattle.mq_history.specs.declared.scenario.Scenario.{Scenario}
use Rattle.mq_ending.specs.from_net_report.Report.{report}
use Rattle.mq_net_stands.specs.declared.standing.Standing.{Standing}
use Rattle.mq_soak.specs.Line.{soak_line}
use Rattle.mq_spec_network.specs.Ledger.{ledger}
use Rattle.mq_spec_network.specs.Standing.{opening_ledger}
use Rattle.mq_spec_network.specs.Story.{Line, IsStory}
use Rattle.mq_run.specs.declared.reporting.Form.{Form}
use Rattle.mq_run.specs.declared.reporting.Form.TheVariants as forms

-- the report, with the places of the story's ledger, or the line of a number
abbrev pub text_by : Form → Scenario → List History → Standing → List Line → ℕ → List ℕ
text_by forms.Report s hs standing story status = report s hs standing (ledger (opening_ledger s hs) story).places status
text_by (forms.Line n) s hs standing story status = soak_line n hs standing status

-- The verdict is that of the one story of these histories; the text is of that story and of the verdict's number.
pub record EndsBy (form : Form) (s : Scenario) (hs : List History) (standing : Standing) (e : Ending) : Type 0 where
  pub story : List Line
  pub is : IsStory hs story
  pub verdict : e.verdict ≡ verdict s hs story
  pub text : e.report ≡ text_by form s hs standing story (verdict_number e.verdict)
