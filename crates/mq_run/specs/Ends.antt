-- How a run of a scenario ends, by its status.
use Rattle.std.specs.Prelude.{◌≡◌, ◌≤◌, ℕ, true, List, [], length, slice_get, take, Option, Some, None, Result, Ok, Err}
use Rattle.std.specs.Io.KnownBytes.{Appends, Keeps}
use Rattle.mq_world.specs.from_begin.Begun.{NotBegan}
use Rattle.mq_world.specs.from_begin.{NetFault}
use Rattle.mq_world.specs.from_begin.NetFaultVariants as faults
use Rattle.mq_ending.specs.declared.verdict.Verdict.{Verdict}
use Rattle.mq_ending.specs.declared.verdict.Verdict.TheVariants as verdicts
use Rattle.mq_history.specs.declared.history.History.{History}
use Rattle.mq_history.specs.declared.scenario.Scenario.{Scenario}
use Rattle.mq_spec_network.specs.Apart.{apart}
use Rattle.mq_spec_network.specs.Given.{first_moment}
use Rattle.mq_spec_network.specs.Lawful.{IsLawful, IsDone}
use Rattle.mq_spec_network.specs.Story.{entries_at}
use Rattle.mq_nodes.specs.Carried.{AreCarriedSoFar}
use Rattle.mq_nodes.specs.Course.{is_spent}
use Rattle.mq_nodes.specs.declared.nodes.Stop.{Stop}
use Rattle.mq_nodes.specs.declared.nodes.Stop.TheVariants as stops
use Rattle.mq_run.specs.declared.reporting.Form.{Form}
use Rattle.mq_run.specs.declared.status.Status.{Status}
use Rattle.mq_run.specs.declared.status.Status.TheVariants as status
use Rattle.mq_law_ran.specs.Promises.{RestartsAreOwn}
use Rattle.mq_law_ran.specs.Runs.{Left, AreHistories, AreOpenings, BeginsAs, standing_left}
use Rattle.mq_run.specs.Forms.{EndsBy}
use Rattle.mq_run.specs.Leaves.{AreKnownImages}

-- what a run leaves
abbrev pub left : Scenario → List History → Left
left s hs = record { scenario = s; histories = hs }

-- a text was written, all of it, or its front of so many bytes
abbrev pub WroteFront : Option (List ℕ) → Option (List ℕ) → ℕ → List ℕ → Type 0
WroteFront old new written text = (written ≤ length text) × Appends old new (take written text)

-- this is what the story says of the run, and this is what is written of it
abbrev pub HasEnded : Form → Left → Verdict → List ℕ → Type 0
HasEnded form l v text = EndsBy form l.scenario l.histories (standing_left l) (record { verdict = v; report = text })

-- All steps were done, each whole, and the last restarts, from logs that belong together.
pub record DidAll (l : Left) : Type 0 where
  pub together : apart l.scenario l.histories ≡ None
  pub done : IsDone l.scenario l.histories

-- that was written whole, of a story that says this
pub record Wrote (form : Form) (old new : Option (List ℕ)) (v : Verdict) (l : Left) : Type 0 where
  pub did : DidAll l
  pub text : List ℕ
  pub ended : HasEnded form l v text
  pub written : Appends old new text

-- or its front
pub record WroteSome (form : Form) (old new : Option (List ℕ)) (n : ℕ) (l : Left) : Type 0 where
  pub did : DidAll l
  pub verdict : Verdict
  pub text : List ℕ
  pub ended : HasEnded form l verdict text
  pub written : WroteFront old new n text

-- By status, where all managers began. The run of status 6 and 11 ended within its steps, that of status 10 before them.
abbrev pub LeftEnds : Form → Option (List ℕ) → Option (List ℕ) → Status → Left → Type 0
LeftEnds form old new status.Ok l = Wrote form old new verdicts.Whole l
LeftEnds form old new (status.Conflict found) l = Wrote form old new (verdicts.Conflict found) l
LeftEnds form old new status.DiskFault l = Wrote form old new verdicts.DiskFault l
LeftEnds form old new (status.BadLog bad) l = Wrote form old new (verdicts.BadLog bad) l
LeftEnds form old new (status.WriteFault n) l = WroteSome form old new n l
LeftEnds form old new status.NoMemory l = Keeps old new
LeftEnds form old new (status.Apart found) l = (apart l.scenario l.histories ≡ Some found) × ((m : ℕ) → entries_at l.histories m ≡ []) × Keeps old new
LeftEnds form old new (status.Spent m) l = (apart l.scenario l.histories ≡ None) × (is_spent (entries_at l.histories m) ≡ true) × Keeps old new
LeftEnds form old new _ l = ⊥

-- What is so of a run whose managers began with these histories, as far as it was done.
pub record RanOn (s : Scenario) (gs : List History) (l : Left) : Type 0 where
  pub scenario : l.scenario ≡ s
  pub histories : AreHistories l.scenario l.histories
  pub lawful : IsLawful l.scenario l.histories
  pub carried : AreCarriedSoFar l.scenario l.histories
  pub begins : (m : ℕ) (h : History) → slice_get l.histories m ≡ Some h → BeginsAs l.scenario gs m h
  pub known : AreKnownImages l.histories
  pub apart : apart l.scenario l.histories ≡ apart s gs

-- What the answer of the steps tells.
abbrev pub StepsEnd : Result (Unit {0}) Stop → Left → Type 0
StepsEnd (Ok done) l = IsDone l.scenario l.histories
StepsEnd (Err stops.NoMemory) l = Unit {0}
StepsEnd (Err (stops.Spent m)) l = is_spent (entries_at l.histories m) ≡ true

abbrev pub WholeEnds : Form → Option (List ℕ) → Option (List ℕ) → Scenario → List History → Status → Option Left → Type 0
WholeEnds form old new s gs st None = ⊥
WholeEnds form old new s gs st (Some l) = RanOn s gs l × LeftEnds form old new st l

-- What is so whatever the status: each history opened with what its disk told, replays, and all make a lawful story of the
-- scenario; at the end of each step the ends of cables have popped what was offered till then; over disks that tell their bytes no restart read a log that was changed from outside; no disk is handed back, for the
-- network has them.
pub record RunLeaves (tells : Type 0) (held : List ℕ → List ℕ → Type 0) (start : ℕ) (s : Scenario) (counts : List ℕ) (l : Left) : Type 0 where
  pub scenario : l.scenario ≡ s
  pub openings : AreOpenings tells held start l
  pub histories : AreHistories l.scenario l.histories
  pub lawful : IsLawful l.scenario l.histories
  pub carried : AreCarriedSoFar l.scenario l.histories
  pub none : counts ≡ []
  pub own : RestartsAreOwn tells l

-- By status, where not all did: `counts` are those of the disks that are handed back.
abbrev pub NoneLeft : (tells : Type 0) (held : List ℕ → List ℕ → Type 0) (start : ℕ) (s : Scenario) (before now : ℕ) (counts : List ℕ) → NetFault → Type 0
NoneLeft tells held start s before now counts fault = NotBegan tells held (first_moment s start) s.managers before now counts fault

abbrev pub NoneEnds : (tells : Type 0) (held : List ℕ → List ℕ → Type 0) (start : ℕ) (s : Scenario) (before now : ℕ) (counts : List ℕ) → Status → Type 0
NoneEnds tells held start s before now counts status.DiskFault = NoneLeft tells held start s before now counts faults.DiskFault
NoneEnds tells held start s before now counts (status.BadLog bad) = NoneLeft tells held start s before now counts (faults.BadLog bad.manager bad.gate)
NoneEnds tells held start s before now counts status.NoMemory = NoneLeft tells held start s before now counts faults.NoMemory
NoneEnds tells held start s before now counts _ = ⊥

-- A run of a scenario of which so is written.
abbrev pub RunEnds : Form → (tells : Type 0) (held : List ℕ → List ℕ → Type 0) (start : ℕ) (s : Scenario) (before now : ℕ) (old new : Option (List ℕ)) → Status → Option Left → List ℕ → Type 0
RunEnds form tells held start s before now old new st None counts = NoneEnds tells held start s before now counts st × Keeps old new
RunEnds form tells held start s before now old new st (Some l) counts = RunLeaves tells held start s counts l × LeftEnds form old new st l
