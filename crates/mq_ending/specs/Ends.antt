-- The end of a run.
use Rattle.std.specs.Prelude.{◌≡◌, List}
use Rattle.mq_history.specs.declared.history.History.{History}
use Rattle.mq_history.specs.declared.scenario.Scenario.{Scenario}
use Rattle.mq_spec_network.specs.Story.{Line, IsStory}
use Rattle.mq_spec_network.specs.Ledger.{ledger}
use Rattle.mq_spec_network.specs.Standing.{opening_ledger}
use Rattle.mq_net_report.specs.from_net_stands.{Standing}
use Rattle.mq_net_report.specs.Report.{report}
use Rattle.mq_ending.specs.declared.ending.Ending.{Ending}
use Rattle.mq_ending.specs.Verdicts.{verdict, verdict_number}

-- The verdict is that of the one story of these histories; the report is that of scenario, histories, standing, the places of
-- that story's ledger, and the verdict's number.
pub record IsEnding (s : Scenario) (hs : List History) (standing : Standing) (e : Ending) : Type 0 where
  pub story : List Line
  pub is : IsStory hs story
  pub verdict : e.verdict ≡ verdict s hs story
  pub report : e.report ≡ report s hs standing (ledger (opening_ledger s hs) story).places (verdict_number e.verdict)
