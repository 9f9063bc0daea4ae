-- The course of a network, as the histories of its managers tell it.
use Rattle.std.specs.Prelude.{◌≡◌, ◌≤◌, ℕ, Bool, List, [], ◌∷◌, ◌++◌, map, Option, Some, None, length, slice_get, slice_set}
use Rattle.mq_history.specs.declared.calls.Entry.{Entry}
use Rattle.mq_history.specs.declared.history.History.{History}
use Rattle.mq_history.specs.declared.history.Mark.{Mark}
use Rattle.mq_history.specs.declared.scenario.Scenario.{Scenario}
use Rattle.mq_spec_network.specs.Story.{entries_at}
use Rattle.mq_spec_network.specs.Given.{surroundings}
use Rattle.mq_spec_network.specs.Turns.{Network, does}
use Rattle.mq_spec_network.specs.Lawful.{marks_at, node_begun}
use Rattle.mq_nodes.specs.Course.{Course, noted}
use Rattle.mq_nodes.specs.Told.{Has}

-- each node is that of its history's opening, and did its entries
abbrev pub net_of : Scenario → List History → Network
net_of s hs = record { scenario = s; first = λ m. node_begun (surroundings s m) (slice_get hs m); done = λ m. entries_at hs m }

-- A manager that isn't there notes as the first one does, but that nothing was done.
abbrev pub absent : Mark → Mark
absent x = record { entries = 0; idle = x.idle }

abbrev pub marks_or_absent : List Mark → Option History → List Mark
marks_or_absent first None = map absent first
marks_or_absent first (Some h) = h.marks

abbrev pub course_of : Scenario → List History → (ℕ → Option ℕ) → Course
course_of s hs waits = record { net = net_of s hs; waits = waits; marks = λ m. marks_or_absent (marks_at hs 0) (slice_get hs m) }

-- entries more in a history, and a step's end
abbrev pub with_entries : List Entry → History → History
with_entries es h = record h { entries = h.entries ++ es }

abbrev pub with_mark : Bool → History → History
with_mark idle h = record h { marks = h.marks ++ record { entries = length h.entries; idle = idle } ∷ [] }

-- What one manager does more is what the network does more.
abbrev pub OneDoes : Type 0
OneDoes = (s : Scenario) (hs : List History) (waits : ℕ → Option ℕ) (m : ℕ) (h : History) (es : List Entry) → slice_get hs m ≡ Some h
    → course_of s (slice_set hs m (with_entries es h)) waits ≡ record (course_of s hs waits) { net = does m es (net_of s hs) }

-- Where each history notes a step's end, the network has noted it.
abbrev pub AllNote : Type 0
AllNote = (s : Scenario) (hs : List History) (waits : ℕ → Option ℕ) (idle : Bool) → 1 ≤ length hs → course_of s (map (with_mark idle) hs) waits ≡ noted idle (course_of s hs waits)

-- Histories have what was done since they had no entries.
abbrev pub HistoriesHave : Type 0
HistoriesHave = (s : Scenario) (old new : List History) (first last : ℕ → Option ℕ)
    → ((m : ℕ) → node_begun (surroundings s m) (slice_get old m) ≡ node_begun (surroundings s m) (slice_get new m)) → ((m : ℕ) → entries_at old m ≡ [])
    → Has s new (course_of s old first) (course_of s new last)
