-- What is promised of what a run leaves.
use Rattle.std.proofs.Common.{ℕ, List, sym, subst, inl, inr}
use Rattle.mq_history.specs.Scenarios.{IsScenario}
use Rattle.mq_history.specs.declared.scenario.Scenario.{Scenario}
use Rattle.mq_run.specs.Ends.{RunLeaves}
use Rattle.mq_spec_network.specs.Lawful.{AreOwn}
use Rattle.mq_law_ran.specs.Promises.{HasOwnLogs}
use Rattle.mq_run.specs.Words.{GotOnce, IsPromised, Left, OrderKept, RestartsAreOwn, RowsAreLedgers, StandOnce}
use Rattle.mq_law_ran.proofs.Lawfuls as lawfuls

is_scenario : (tells : Type 0) (held : List ℕ → List ℕ → Type 0) (start : ℕ) (s : Scenario) (counts : List ℕ) (l : Left) → IsScenario s → RunLeaves tells held start s counts l → IsScenario l.scenario
is_scenario tells held start s counts l is h = subst IsScenario (sym h.scenario) is

pub owned : (tells : Type 0) (l : Left) → RestartsAreOwn tells l → HasOwnLogs tells l → AreOwn l.histories
owned tells l restarts (inl is) = restarts is
owned tells l restarts (inr own) = own

pub rows : (tells : Type 0) (held : List ℕ → List ℕ → Type 0) (start : ℕ) (s : Scenario) (counts : List ℕ) (l : Left) → IsScenario s → RunLeaves tells held start s counts l → IsPromised tells RowsAreLedgers l
rows tells held start s counts l is h joined own =
    lawfuls.rows_are l (is_scenario tells held start s counts l is h) (lawfuls.images tells held start l h.histories h.openings) (lawfuls.known tells held start l h.histories h.openings) h.lawful joined (owned tells l h.own own)

pub once : (tells : Type 0) (held : List ℕ → List ℕ → Type 0) (start : ℕ) (s : Scenario) (counts : List ℕ) (l : Left) → IsScenario s → RunLeaves tells held start s counts l → IsPromised tells StandOnce l
once tells held start s counts l is h joined own =
    lawfuls.once l (is_scenario tells held start s counts l is h) (lawfuls.images tells held start l h.histories h.openings) (lawfuls.known tells held start l h.histories h.openings) h.lawful joined (owned tells l h.own own)

pub got_once : (tells : Type 0) (held : List ℕ → List ℕ → Type 0) (start : ℕ) (s : Scenario) (counts : List ℕ) (l : Left) → IsScenario s → RunLeaves tells held start s counts l → IsPromised tells GotOnce l
got_once tells held start s counts l is h joined own =
    lawfuls.got_once l (is_scenario tells held start s counts l is h) (lawfuls.images tells held start l h.histories h.openings) (lawfuls.known tells held start l h.histories h.openings) h.lawful joined (owned tells l h.own own)

pub order : (tells : Type 0) (held : List ℕ → List ℕ → Type 0) (start : ℕ) (s : Scenario) (counts : List ℕ) (l : Left) → IsScenario s → RunLeaves tells held start s counts l → IsPromised tells OrderKept l
order tells held start s counts l is h joined own =
    lawfuls.order l (is_scenario tells held start s counts l is h) (lawfuls.images tells held start l h.histories h.openings) (lawfuls.known tells held start l h.histories h.openings) h.lawful joined (owned tells l h.own own)
