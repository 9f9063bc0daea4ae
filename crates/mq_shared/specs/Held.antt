-- What lies under a lock of a phase, and what its type keeps.
use Rattle.std.specs.Prelude.{◌≡◌, ◌⊎◌, ◌≤◌, ◌<◌, ◌^◌, ℕ, Bool, false, IfSome, List, ◌++◌, [], Option, Some, None, length, map, slice_get}
use Rattle.atomic_table.specs.Seated.{TableId}
use Rattle.mq_history.specs.declared.scenario.CableLine.{CableLine}
use Rattle.mq_spec_node.specs.Terms.{Entry, ScriptLine, ScriptPart}
use Rattle.mq_spec_node.specs.Words.{Grows, deadline, wait_of}
use Rattle.mq_spec_network.specs.Story.{Mem}
use Rattle.mq_spec_network.specs.Steps.{AllInPhase}
use Rattle.mq_spec_network.specs.Tasks.{Trying}
use Rattle.mq_progress.specs.Course.{Course, Stands}
use Rattle.mq_acts.specs.from_events.States.{NodeState, value_of}
use Rattle.mq_acts.specs.Advances.{IsTextLine}
use Rattle.mq_acts.specs.Restarts.{StaysOwn}
use Rattle.mq_acts.specs.Serving.{IsDone}
use Rattle.mq_split.specs.Took.{EndState}
use Rattle.mq_split.specs.Ends.{AreFree, EachIs, EndsApart, IsEndAt, Parted, end_name}

-- A script of the phase: its place in the scenario, its lines, the moment with which the phase began at its manager, how far it is.
pub record ScriptState : Type 0 where
  pub script : ℕ
  pub part : ScriptPart
  pub moment : ℕ
  pub course : Course

abbrev pub script_with : ℕ → ScriptPart → ℕ → Course → ScriptState
script_with script part moment course = record { script = script; part = part; moment = moment; course = course }

-- The manager's place, its node, the ends of its cables, its scripts of the phase; whether an event found no memory.
pub record Held : Type 0 where
  pub manager : ℕ
  pub node : NodeState
  pub ends : List EndState
  pub scripts : List ScriptState
  pub wants : Bool

-- With what a phase began: the nodes, the lines of the cables, the queue of each cable's two directions, the scripts; and by manager, in
-- their order under its lock, the ends of its cables and the numbers of its scripts.
pub record Begun : Type 0 where
  pub nodes : List NodeState
  pub lines : List CableLine
  pub outs : List TableId
  pub backs : List TableId
  pub tries : List Trying
  pub ends : List (List (ℕ × Bool))
  pub scripts : List (List ℕ)

-- a script's name
abbrev pub script_name : ScriptState → ℕ
script_name s = s.script

abbrev pub entries_or : Option NodeState → List Entry
entries_or None = []
entries_or (Some n) = n.history.entries

abbrev pub entries_begun : Begun → ℕ → List Entry
entries_begun b m = entries_or (slice_get b.nodes m)

-- what is known of the cables as they were split
abbrev pub cables_begun : Begun → Parted
cables_begun b = record { lines = b.lines; outs = b.outs; backs = b.backs; done = entries_begun b }

-- a get that waits has its deadline from the phase's first moment on
abbrev pub TriedSo : ℕ → ScriptLine → Option ℕ → Type 0
TriedSo moment l until = (until ≡ None) ⊎ (until ≡ deadline moment (wait_of l))

-- a script of the phase at this manager
pub record IsScriptIn (b : Begun) (m : ℕ) (entries : List Entry) (s : ScriptState) : Type 0 where
  pub among : Mem (record { script = s.script; part = s.part; moment = s.moment }) b.tries
  pub here : s.part.manager ≡ m
  pub stands : Stands s.script s.part entries s.course
  pub few : s.course.done ≤ length s.part.lines
  pub short : length s.part.lines < 2 ^ 32
  pub texts : (n : ℕ) → IfSome (slice_get s.part.lines n) IsTextLine
  pub tried : (l : ScriptLine) → slice_get s.part.lines s.course.done ≡ Some l → TriedSo s.moment l s.course.until

-- no script stands twice
abbrev pub ScriptsApart : List ScriptState → Type 0
ScriptsApart ss = (i j : ℕ) (s t : ScriptState) → slice_get ss i ≡ Some s → slice_get ss j ≡ Some t → s.script ≡ t.script → i ≡ j

-- What the type of a lock's value keeps: the history is the one from before the phase, and then what a phase may have; each end and
-- each script is as the history says, in the places that they had; and where no event lacked memory, no trigger is due, and no end holds
-- an item that it did not take.
pub record Kept (b : Begun) (h : Held) : Type 0 where
  pub first : NodeState
  pub there : slice_get b.nodes h.manager ≡ Some first
  pub since : List Entry
  pub grows : Grows (value_of first) since (value_of h.node)
  pub marks : h.node.marks ≡ first.marks
  pub phased : AllInPhase b.tries h.manager first.history.entries since
  pub ends : EachIs (IsEndAt (cables_begun b) h.manager first.history.entries since) h.ends
  pub ends_apart : EndsApart h.ends
  pub end_names : slice_get b.ends h.manager ≡ Some (map end_name h.ends)
  pub scripts : EachIs (IsScriptIn b h.manager (first.history.entries ++ since)) h.scripts
  pub scripts_apart : ScriptsApart h.scripts
  pub script_names : slice_get b.scripts h.manager ≡ Some (map script_name h.scripts)
  pub ready : h.wants ≡ false → IsDone h.node
  pub free : h.wants ≡ false → AreFree h.ends

-- Over a disk that tells its bytes, no restart in the phase was from a log that was changed from outside.
abbrev pub KeptOwn : Type 0 → Begun → Held → Type 0
KeptOwn tells b h = tells → StaysOwn (entries_begun b h.manager) h.node.history.entries
