-- A unit in doubt that is settled.
use Rattle.std.specs.Prelude.{◌≡◌, ℕ, ◌+◌, ◌-◌, ◌<◌, Bool, true, false, List, [], ◌∷◌, ◌++◌, length, map, Option, Some, None}
use Rattle.mq_message.specs.declared.place.Holder.{Holder}
use Rattle.mq_calls.specs.declared.agents.Note.TheVariants as notes
use Rattle.mq_calls.specs.declared.deltas.Did.TheVariants as did
use Rattle.mq_calls.specs.Words.{Luw, Change, SenderData, Row, HeldBy, Among, kept_in, released_in, data_settled, settle_by}
use Rattle.mq_calls.specs.declared.records.Remove.{Remove}
use Rattle.mq_calls.specs.declared.state.SenderSide.{SenderSide}
use Rattle.mq_sync.specs.declared.data.InDoubt.{InDoubt}
use Rattle.mq_calls.specs.declared.deltas.Did.{Did}
use Rattle.mq_calls.specs.State.{Queue}
use Rattle.mq_calls.specs.State.Change.{SetSender}
use Rattle.mq_spec_manager.specs.Agents.{settle_change, settle_did}
use Rattle.mq_law_manager.specs.Facts.{Mem, Differ, ident_of, AreNamed}
use Rattle.mq_place.specs.States.{on_queues}
use Rattle.mq_place.specs.Rooms.{RowsKept}
use Rattle.mq_core.specs.Views.{PartsValue}
use Rattle.mq_core.specs.Placing.{with_states}

-- the rows of a holder go, or are free again
abbrev pub settled_in : (commit : Bool) → Holder → Queue → Queue
settled_in true by = kept_in (HeldBy by)
settled_in false by = released_in (HeldBy by) false

abbrev pub rows_settled : (commit : Bool) → Holder → PartsValue → PartsValue
rows_settled commit by x = with_states (on_queues (settled_in commit by) x.queues.states) x

-- a row goes, or is free again; so each of some
abbrev pub row_in : (commit : Bool) → Remove → Queue → Queue
row_in true r = kept_in (Among r.queue (r.ident ∷ []))
row_in false r = released_in (Among r.queue (r.ident ∷ [])) false

abbrev pub each_in : (commit : Bool) → List Remove → Queue → Queue
each_in commit [] q = q
each_in commit (r ∷ rs) q = each_in commit rs (row_in commit r q)

abbrev pub row_settled : (commit : Bool) → Remove → PartsValue → PartsValue
row_settled true r x = with_states (on_queues (kept_in (Among r.queue (r.ident ∷ []))) x.queues.states) x
row_settled false r x = with_states (on_queues (released_in (Among r.queue (r.ident ∷ [])) false) x.queues.states) x

abbrev pub each_settled : (commit : Bool) → List Remove → PartsValue → PartsValue
each_settled commit [] x = x
each_settled commit (r ∷ rs) x = each_settled commit rs (row_settled commit r x)

-- each queue has one name, and each ident one row
pub record AreLone (qs : List Queue) : Type 0 where
  pub named : AreNamed qs
  pub once : (q : Queue) → Mem q qs → Differ ident_of q.rows
  pub alone : (q d : Queue) (h k : Row) → Mem q qs → Mem d qs → Mem h q.rows → Mem k d.rows → h.message.ident ≡ k.message.ident → q.name ≡ d.name

-- no row is named, and there is no room; other rows are named
abbrev pub none_named : RowsKept
none_named = record { rows = []; room = 0 }

abbrev pub with_named : RowsKept → PartsValue → PartsValue
with_named k x = record x { ends = record x.ends { rows = k } }

-- none is named, and so much room is kept no longer
abbrev pub freed_room : ℕ → RowsKept → RowsKept
freed_room less k = record { rows = []; room = k.room + length k.rows - less }

-- so much room is less than what a unit in doubt lists, where there is one
abbrev pub IsShortOf : ℕ → Option InDoubt → Type 0
IsShortOf room o = (d : InDoubt) → o ≡ Some d → room < length d.idents

-- what a sender had in doubt that stood for a channel
abbrev pub doubt_before : Option SenderSide → Option InDoubt
doubt_before None = None
doubt_before (Some s) = s.hardened.in_doubt

-- what the step does and tells
abbrev pub settled_changes : Bool → List ℕ → SenderData → List Change
settled_changes commit channel d = settle_change commit channel ∷ SetSender channel (data_settled (Some (settle_by commit)) d) ∷ []

abbrev pub settled_told : Bool → Bool → List ℕ → Luw → List Remove → List Did
settled_told commit operator channel unit rows = map (settle_did commit) rows ++ did.Hardened channel (notes.Resolved unit commit operator) ∷ []
