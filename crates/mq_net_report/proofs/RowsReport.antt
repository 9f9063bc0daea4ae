-- Worked rows of reports: what steps look like, and a whole report.
use Rattle.std.specs.Prelude.{◌≡◌, List, [], ◌∷◌, Some, None, codes, true}
use Rattle.std.proofs.Common.{refl}
use Rattle.std.specs.Fmt.{digits}
use Rattle.mq_history.specs.declared.history.History.{History}
use Rattle.mq_history.specs.declared.scenario.Scenario.{Scenario}
use Rattle.mq_history.specs.declared.scenario.Step.TheVariants as steps
use Rattle.mq_net_report.specs.Steps.{step_text, watched_text}
use Rattle.mq_net_report.specs.Report.{report}

-- steps
pub clock : (s : Scenario) (hs : List History) → step_text s hs 4 (steps.Clock 100) ≡ codes "CLOCK 100\n"
unfolding digits
clock s hs = refl

pub watch : watched_text (Some 2085) ≡ codes " REFUSED 2085\n"
unfolding digits
watch = refl

-- a scenario of one manager and one step, whole
pub whole : (h : History) →
    report (record { moment = None; managers = record { name = codes "QM1"; log_max = 4096 } ∷ []; cables = []; sections = []; rules = []; scripts = []; monitors = []; steps = steps.Clock 5 ∷ [] }) (h ∷ [])
    (record { managers = record { name = codes "QM1"; is_up = true; queues = [] } ∷ []; cables = [] }) [] 0
    ≡ codes "MQNET 1\nSTEPS\n0001 CLOCK 5\nQUEUES\nQMGR QM1 UP\nCHANNELS\nLEDGER\nSTATUS 0\n"
unfolding digits
whole h = refl
