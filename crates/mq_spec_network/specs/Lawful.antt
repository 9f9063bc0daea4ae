-- When the histories of a scenario's managers make a lawful story.
use Rattle.std.specs.Prelude.{◌≡◌, ◌<◌, ℕ, Bool, false, List, [], ◌∷◌, ◌++◌, Option, Some, None, length, slice_get}
use Rattle.mq_spec_network.specs.Terms.{History, Mark, CableLine, RulesPart, ScriptPart, Scenario, Step, Node, Surroundings, Replays, TriggersStand, NoneForeign, opening_node, AreLines, fresh, is_sender, is_receiver, by, lines_by}
use Rattle.mq_spec_node.specs.from_history.StepVariants as steps
use Rattle.mq_spec_network.specs.Story.{entries_at}
use Rattle.mq_spec_network.specs.Given.{surroundings}
use Rattle.mq_spec_network.specs.Cables.{Carries}
use Rattle.mq_spec_network.specs.Turns.{Network, node_at, is_idle}
use Rattle.mq_spec_network.specs.Tasks.{Task, tasks_of, tasks_next}
use Rattle.mq_spec_network.specs.Steps.{Goes, Served, handler_idle}

-- Each history is its manager's, and replays with what the scenario gives it.
pub record IsHistory (s : Scenario) (m : ℕ) (h : History) : Type 0 where
  pub replays : Replays (surroundings s m) h
  pub triggers : TriggersStand None (opening_node (surroundings s m) h) h.entries

-- Each frame that was popped was offered before, as the faults have it.
pub record IsCarried (cable : ℕ) (c : CableLine) (hs : List History) : Type 0 where
  pub out : Carries c.out (by (is_sender cable) (entries_at hs c.sender)) (is_receiver cable) (entries_at hs c.receiver)
  pub back : Carries c.back (by (is_receiver cable) (entries_at hs c.receiver)) (is_sender cable) (entries_at hs c.sender)

-- The entries of a script are its lines.
abbrev pub ScriptIs : Scenario → List History → ℕ → ScriptPart → Type 0
ScriptIs s hs k p = AreLines p.label fresh p.lines (lines_by k (entries_at hs p.manager))

abbrev pub marks_or : Option History → List Mark
marks_or None = []
marks_or (Some h) = h.marks

abbrev pub marks_at : List History → ℕ → List Mark
marks_at hs m = marks_or (slice_get hs m)

abbrev pub node_begun : Surroundings → Option History → Option Node
node_begun g None = None
node_begun g (Some h) = Some (opening_node g h)

-- the network before anything is done
abbrev pub network_begun : Scenario → List History → Network
network_begun s hs = record { scenario = s; first = λ m. node_begun (surroundings s m) (slice_get hs m); done = λ m. [] }

-- A mark is idle exactly where its step is a PUMP after which nothing can change, or a HANDLE whose next turn would be idle.
abbrev pub handles_idle : ℕ → Option RulesPart → Network → Bool
handles_idle k None w = false
handles_idle k (Some r) w = handler_idle k (node_at w r.manager)

abbrev pub ends_idle : Network → Step → Bool
ends_idle w (steps.Pump n) = is_idle w
ends_idle w (steps.Handle k n) = handles_idle k (slice_get w.scenario.rules k) w
ends_idle w _ = false

-- each manager notes how much it did
abbrev pub mark_of : Network → Step → ℕ → Mark
mark_of w step m = record { entries = length (w.done m); idle = ends_idle w step }

-- These steps were done whole, one after the other, with these marks.
pub data Went (w0 : Network) : List Step → (ℕ → List Mark) → Network → Type 0 where
  begins : Went w0 [] (λ m. []) w0
  ends : (whole : List Step) (marks : ℕ → List Mark) (before w : Network) (step : Step) → Went w0 whole marks before → Goes before (tasks_of before step) w [] → Served w
      → Went w0 (whole ++ step ∷ []) (λ m. marks m ++ mark_of w step m ∷ []) w

-- How far a run is in its steps: some are whole, and of the next, or of the last restarts, a part is done, which may be
-- empty; these tasks are left of it.
pub record Stands (w0 : Network) (whole rest : List Step) (marks : ℕ → List Mark) (now : Network) (tasks : List Task) : Type 0 where
  pub before : Network
  pub parts : w0.scenario.steps ≡ whole ++ rest
  pub went : Went w0 whole marks before
  pub goes : Goes before (tasks_next before rest) now tasks

-- That is what the histories have.
pub record IsFar (s : Scenario) (hs : List History) (whole rest : List Step) (tasks : List Task) : Type 0 where
  pub marks : ℕ → List Mark
  pub now : Network
  pub stands : Stands (network_begun s hs) whole rest marks now tasks
  pub entries : (m : ℕ) → now.done m ≡ entries_at hs m
  pub noted : (m : ℕ) → m < length hs → marks_at hs m ≡ marks m

pub record AreSteps (s : Scenario) (hs : List History) : Type 0 where
  pub whole : List Step
  pub rest : List Step
  pub tasks : List Task
  pub far : IsFar s hs whole rest tasks

-- Lawful: histories that replay; frames that were offered; scripts line by line; the steps in order, with their marks; and
-- each stopped write where the armed call was reached or a disk failed, which is part of what replays.
pub record IsLawful (s : Scenario) (hs : List History) : Type 0 where
  pub all : length hs ≡ length s.managers
  pub histories : (m : ℕ) (h : History) → slice_get hs m ≡ Some h → IsHistory s m h
  pub cables : (n : ℕ) (c : CableLine) → slice_get s.cables n ≡ Some c → IsCarried n c hs
  pub scripts : (k : ℕ) (p : ScriptPart) → slice_get s.scripts k ≡ Some p → ScriptIs s hs k p
  pub steps : AreSteps s hs

-- Where each disk tells its bytes, no restart read an image that its history does not allow.
abbrev pub AreOwn : List History → Type 0
AreOwn hs = (m : ℕ) (h : History) → slice_get hs m ≡ Some h → NoneForeign h.entries

-- every step is done whole, and the last restarts too
abbrev pub IsDone : Scenario → List History → Type 0
IsDone s hs = IsFar s hs s.steps [] []
