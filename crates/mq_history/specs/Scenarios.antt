-- What a scenario keeps to, beside its types: names that differ, places that are there, numbers in their ranges.
use Rattle.std.specs.Prelude.{ℕ, ◌≢◌, ◌+◌, ◌<◌, ◌≤◌, List, ◌++◌, IfSome, map, length, All, AllPairs}
use Rattle.mq_history.specs.declared.scenario.ManagerLine.{ManagerLine}
use Rattle.mq_history.specs.declared.scenario.CableLine.{CableLine}
use Rattle.mq_history.specs.declared.scenario.MonitorLine.{MonitorLine}
use Rattle.mq_history.specs.declared.scenario.RulesPart.{RulesPart}
use Rattle.mq_history.specs.declared.scenario.ScriptPart.{ScriptPart}
use Rattle.mq_history.specs.declared.scenario.Section.{Section}
use Rattle.mq_history.specs.declared.scenario.Scenario.{Scenario}
use Rattle.mq_history.specs.declared.scenario.Step.{Step}
use Rattle.mq_history.specs.declared.scenario.Step.TheVariants as steps

-- no two are the same
abbrev pub AllDiffer : {A : Type 0} → List A → Type 0
AllDiffer xs = AllPairs (λ x y. x ≢ y) xs

-- a number from the first to the second
abbrev pub Within : (least most n : ℕ) → Type 0
Within least most n = (least ≤ n) × (n ≤ most)

-- sections, rules tables, scripts and monitors share one name space
abbrev pub labels : Scenario → List (List ℕ)
labels s =
    map (λ (p : Section). p.label) s.sections
    ++ map (λ (r : RulesPart). r.label) s.rules
    ++ map (λ (p : ScriptPart). p.label) s.scripts
    ++ map (λ (l : MonitorLine). l.label) s.monitors

-- a manager has a name, and a maximum for its log
pub record IsManager (l : ManagerLine) : Type 0 where
  pub named : 1 ≤ length l.name
  pub room : Within 4096 268435456 l.log_max

-- a cable joins two managers of the scenario
pub record IsCable (s : Scenario) (c : CableLine) : Type 0 where
  pub sender : c.sender < length s.managers
  pub receiver : c.receiver < length s.managers
  pub apart : c.sender ≢ c.receiver

-- scripts of a phase: two or more, none twice
pub record ArePhased (s : Scenario) (ks : List ℕ) : Type 0 where
  pub some : 2 ≤ length ks
  pub there : All (λ (k : ℕ). k < length s.scripts) ks
  pub differ : AllDiffer ks

-- what a step names is there, and its numbers are in range
abbrev pub IsStep : Scenario → Step → Type 0
IsStep s (steps.Obey k) = k < length s.sections
IsStep s (steps.Do m c) = m < length s.managers
IsStep s (steps.Run k n) = k < length s.scripts
IsStep s (steps.Phase ks) = ArePhased s ks
IsStep s (steps.Pump n) = Within 1 100000 n
IsStep s (steps.Handle k n) = (k < length s.rules) × Within 1 100000 n
IsStep s (steps.Watch k) = k < length s.monitors
IsStep s (steps.Serve k n) = (k < length s.monitors) × Within 1 100000 n
IsStep s (steps.Crash m) = m < length s.managers
IsStep s (steps.Restart m) = m < length s.managers
IsStep s (steps.Cut m k) = (m < length s.managers) × Within 1 1000 k
IsStep s (steps.Clock ms) = ms ≤ 999999999

-- how many there may be of each kind
pub record AreFew (s : Scenario) : Type 0 where
  pub managers : Within 1 8 (length s.managers)
  pub cables : length s.cables ≤ 32
  pub sections : length s.sections + length s.rules ≤ 64
  pub scripts : length s.scripts ≤ 64
  pub monitors : length s.monitors ≤ 16
  pub steps : length s.steps ≤ 3000

-- a scenario
pub record IsScenario (s : Scenario) : Type 0 where
  pub few : AreFew s
  pub moment : IfSome s.moment (λ moment. moment ≤ 253300000000000)
  pub managers : All IsManager s.managers
  pub names : AllDiffer (map (λ (m : ManagerLine). m.name) s.managers)
  pub cables : All (IsCable s) s.cables
  pub channels : AllDiffer (map (λ (c : CableLine). c.channel) s.cables)
  pub labelled : AllDiffer (labels s)
  -- the manager of each part
  pub sections : All (λ (p : Section). p.manager < length s.managers) s.sections
  pub rules : All (λ (r : RulesPart). r.manager < length s.managers) s.rules
  pub scripts : All (λ (p : ScriptPart). (p.manager < length s.managers) × (length p.lines ≤ 25000)) s.scripts
  pub monitors : All (λ (l : MonitorLine). l.manager < length s.managers) s.monitors
  pub steps : All (IsStep s) s.steps
