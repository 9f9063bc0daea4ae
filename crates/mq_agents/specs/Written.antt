-- Records that channel ends force, with what they say of an end.
use Rattle.std.specs.Prelude.{◌≡◌, ◌⊎◌, ℕ, ◌+◌, ◌-◌, ◌<◌, ◌≤◌, Bool, true, false, List, [], ◌∷◌, length, not, Option, Some, None, Result, Ok, Err, OnOk, IsErrOf}
use Rattle.mq_base.specs.Outside.{Rose}
use Rattle.mq_disk.specs.declared.cutter.Stop.{Stop}
use Rattle.mq_disk.specs.declared.cutter.Stop.TheVariants as stops
use Rattle.mq_calls.specs.Words.{Part, Change, Plain, SenderData, ReceiverData, record_size, sender_or, sender_data, receiver_or, receiver_data}
use Rattle.mq_sides.specs.Kept.{closed_need}
use Rattle.mq_calls.specs.declared.agents.AgentStop.{AgentStop}
use Rattle.mq_calls.specs.declared.state.SenderSide.{SenderSide}
use Rattle.mq_calls.specs.declared.state.ReceiverSide.{ReceiverSide}
use Rattle.mq_calls.specs.declared.records.LogRecord.{LogRecord}
use Rattle.mq_calls.specs.declared.agents.Note.{Note}
use Rattle.mq_calls.specs.State.Change.{SetSender, SetReceiver}
use Rattle.mq_calls.specs.declared.agents.Note.TheVariants as notes
use Rattle.mq_calls.specs.declared.deltas.Did.TheVariants as did
use Rattle.mq_calls.specs.declared.records.LogRecord.TheVariants as records
use Rattle.mq_spec_manager.specs.Agents.{harden_part}
use Rattle.mq_log.specs.State.{LogState, Appended}
use Rattle.mq_log.specs.Force.{Stops}
use Rattle.mq_core.specs.declared.parts.ChannelEnds.{ChannelEnds}
use Rattle.mq_core.specs.Views.{PartsValue}
use Rattle.mq_core.specs.Ties.{EndsReady}
use Rattle.mq_core.specs.Writes.{FitsRecord}
use Rattle.mq_core.specs.declared.parts.StoppedWrite.{StoppedWrite}
use Rattle.mq_core.specs.Forced.{HasMoreRoom, downed, roomier_ends}
use Rattle.mq_calls.specs.declared.agents.AgentStop.TheVariants as agent_stops
use Rattle.mq_agents.specs.Ends.{stopped_agent}
use Rattle.mq_agents.specs.declared.hardening.Unwritten.{Unwritten}
use Rattle.mq_agents.specs.declared.hardening.Unwritten.TheVariants as unwritten

abbrev pub with_senders : List SenderSide → ChannelEnds → ChannelEnds
with_senders sides e = record e { senders = sides }

abbrev pub with_receivers : List ReceiverSide → ChannelEnds → ChannelEnds
with_receivers sides e = record e { receivers = sides }

-- bytes of a record are as many as it has, and its fields fit
abbrev pub IsWhole : List ℕ → LogRecord → Type 0
IsWhole bytes r = (length bytes ≡ record_size r) × FitsRecord r

-- bytes were forced into a log, for which it may have taken room, or their write was stopped
pub record IsLogged (bytes : List ℕ) (x : LogState) (result : Result (Unit {0}) Stop) (y : LogState) : Type 0 where
  pub appended : Appended x bytes result y
  pub calls : Stops x.armed result y.armed
  pub room : OnOk result (x.room ≤ y.room + (5 + length bytes))
  pub enough : OnOk result (x.reserved ≤ y.room)
  pub later : x.faults ≤ y.faults
  pub disk : IsErrOf result stops.Disk → Rose x.faults y.faults

-- so of a manager's log; these are the ends of channels; nothing else has changed
pub record IsWritten (bytes : List ℕ) (e : ChannelEnds) (x : PartsValue) (result : Result (Unit {0}) Stop) (y : PartsValue) : Type 0 where
  pub same : y ≡ record x { ends = e; log = y.log }
  pub log : IsLogged bytes x.log result y.log
  pub ends : OnOk result (EndsReady e x.log.spare)

-- its write was stopped, and that has taken the manager down; rows that are noted have taken their room
pub record IsDowned (bytes : List ℕ) (write : StoppedWrite) (stop : Stop) (x z : PartsValue) : Type 0 where
  pub at : PartsValue
  pub is : IsWritten bytes (record x.ends { rows = at.ends.rows }) x (Err stop) at
  pub down : z ≡ downed write at

-- they were not: there was no memory, or their write was stopped
abbrev pub IsUnlogged : List ℕ → LogState → Unwritten → LogState → Type 0
IsUnlogged bytes x unwritten.NoMemory y = (y ≡ record x { room = y.room }) × (x.room ≤ y.room)
IsUnlogged bytes x (unwritten.Stopped stop) y = IsLogged bytes x (Err stop) y

-- they were forced, and of the old sides these were made, over what stood; or they were not, and the sides are the old ones
abbrev pub Forces : {S : Type 0} → List ℕ → Option S → List S → List S → LogState → Result (Option S) Unwritten → List S → LogState → Type 0
Forces bytes before made old x (Ok back) new y = (back ≡ before) × (new ≡ made) × IsLogged bytes x (Ok tt) y
Forces bytes before made old x (Err unwritten) new y = (new ≡ old) × IsUnlogged bytes x unwritten y

-- a write that was stopped takes the manager down
abbrev pub downed_if : StoppedWrite → Unwritten → PartsValue → PartsValue
downed_if write unwritten.NoMemory x = x
downed_if write (unwritten.Stopped stop) x = downed write x

-- the record was forced, there was no memory, or its write was stopped
abbrev pub Writes : List ℕ → ChannelEnds → StoppedWrite → PartsValue → Result (Unit {0}) Unwritten → PartsValue → Type 0
Writes bytes e write x (Ok _) z = IsWritten bytes e x (Ok tt) z
Writes bytes e write x (Err unwritten.NoMemory) z = HasMoreRoom x z
Writes bytes e write x (Err (unwritten.Stopped stop)) z = IsDowned bytes write stop x z

-- and what stood for the channel is handed back
abbrev pub WritesOver : {S : Type 0} → Option S → List ℕ → ChannelEnds → StoppedWrite → PartsValue → Result (Option S) Unwritten → PartsValue → Type 0
WritesOver before bytes e write x (Ok back) z = (back ≡ before) × IsWritten bytes e x (Ok tt) z
WritesOver before bytes e write x (Err unwritten) z = Writes bytes e write x (Err unwritten) z

-- there was no memory only where the log had no room for a record of so many bytes, or nothing stood for the channel
abbrev pub Lacks : {T : Type 0} → Type 0 → ℕ → LogState → Result T Unwritten → Type 0
Lacks absent n x (Ok value) = Unit {0}
Lacks absent n x (Err unwritten.NoMemory) = (x.room < x.reserved + n) ⊎ absent
Lacks absent n x (Err (unwritten.Stopped stop)) = Unit {0}

-- memory was not wanted
abbrev pub WantsNone : {T : Type 0} → Result T AgentStop → Type 0
WantsNone (Ok value) = Unit {0}
WantsNone (Err agent_stops.NoMemory) = ⊥
WantsNone (Err agent_stops.Disk) = Unit {0}
WantsNone (Err agent_stops.Cut) = Unit {0}

-- room was taken, set aside or drawn, and nothing else has changed
pub record IsAside (x y : PartsValue) : Type 0 where
  pub same : y ≡ record x { ends = roomier_ends x.ends y.ends; log = record x.log { room = y.log.room; spare = y.log.spare }; body = y.body }
  pub body : x.body.room + length x.body.bytes ≤ y.body.room + length y.body.bytes

-- bytes that were set aside are room again
abbrev pub drawn : ℕ → PartsValue → PartsValue
drawn n x = record x { log = record x.log { room = x.log.room + n; spare = x.log.spare - n } }

-- so for a unit that was in doubt
abbrev pub drawn_need : (had : Bool) → ℕ
drawn_need true = 44
drawn_need false = 0

abbrev pub drawn_if : (had : Bool) → PartsValue → PartsValue
drawn_if true x = drawn 44 x
drawn_if false x = x

-- an end's session is open
abbrev pub is_live : Option ReceiverData → Bool
is_live None = false
is_live (Some d) = not d.closed

-- how much is told of the session that stood, where it is closed
abbrev pub live_need : Option ReceiverSide → ℕ
live_need None = 0
live_need (Some side) = closed_need side.hardened.closed

abbrev pub stop_of : Unwritten → Option Stop
stop_of unwritten.NoMemory = None
stop_of (unwritten.Stopped stop) = Some stop

abbrev pub agent_of : Unwritten → AgentStop
agent_of unwritten.NoMemory = agent_stops.NoMemory
agent_of (unwritten.Stopped stop) = stopped_agent stop

-- the record of a note
abbrev pub note_record : List ℕ → Note → LogRecord
note_record channel (notes.Session partner session) = records.Session channel partner session
note_record channel (notes.Resolved unit commit operator) = records.Resolved channel unit commit operator
note_record channel (notes.Bound partner session last) = records.Bound channel partner session last
note_record channel (notes.Closed session) = records.Closed channel session
note_record channel (notes.SeqSet end last) = records.SeqSet channel end last

-- it changes this
abbrev pub noted_change : List ℕ → Note → Change → Part
noted_change channel note change = record { forced = Some (note_record channel note); changes = change ∷ []; delta = did.Hardened channel note ∷ [] }

-- what an end has hardened after a note of its session or its number
abbrev pub sender_after : Note → SenderData → SenderData
sender_after (notes.Session partner session) d = record d { partner = partner; session = session }
sender_after (notes.Resolved unit commit operator) d = d
sender_after (notes.Bound partner session last) d = d
sender_after (notes.Closed session) d = d
sender_after (notes.SeqSet end last) d = record d { last = last; force = true }

abbrev pub receiver_after : Note → ReceiverData → ReceiverData
receiver_after (notes.Session partner session) d = d
receiver_after (notes.Resolved unit commit operator) d = d
receiver_after (notes.Bound partner session last) d = record d { partner = partner; session = session; closed = false; last = last }
receiver_after (notes.Closed session) d = record d { closed = true }
receiver_after (notes.SeqSet end last) d = record d { last = last }

abbrev pub noted_sender : List ℕ → Note → Plain → SenderSide
noted_sender channel note p = record { channel = channel; hardened = sender_after note (sender_or (sender_data channel p)) }

abbrev pub noted_receiver : List ℕ → Note → Plain → ReceiverSide
noted_receiver channel note p = record { channel = channel; hardened = receiver_after note (receiver_or (receiver_data channel p)) }

-- such a note is what the end of this channel hardens
abbrev pub IsSenderNote : List ℕ → Note → Plain → Type 0
IsSenderNote channel note p = harden_part channel note p ≡ noted_change channel note (SetSender channel (noted_sender channel note p).hardened)

abbrev pub IsReceiverNote : List ℕ → Note → Plain → Type 0
IsReceiverNote channel note p = harden_part channel note p ≡ noted_change channel note (SetReceiver channel (noted_receiver channel note p).hardened)
