-- Rows that go behind a record, and the room of it.
use Rattle.std.specs.Prelude.{◌≡◌, ℕ, ◌≤◌, Bool, false, List, [], ◌∷◌, length, Option, Some, None, Result, Ok, Err, filter, is_some, not}
use Rattle.std.specs.Str.{bytes_eq}
use Rattle.mq_message.specs.declared.place.Holder.TheVariants as holders
use Rattle.mq_core.specs.declared.parts.ChannelEnds.{ChannelEnds}
use Rattle.mq_calls.specs.Words.{held_in, noted_if, receiver_in, set_named, Plain, Refuse, say, batch_of, is_full, Ident, InDoubt, need, record_size, Message, Among, kept_in, is_persistent}
use Rattle.mq_calls.specs.declared.agents.PrepareFault.{PrepareFault}
use Rattle.mq_calls.specs.declared.state.Batch.{Batch}
use Rattle.mq_calls.specs.declared.records.LogRecord.{LogRecord}
use Rattle.mq_calls.specs.declared.records.LogRecord.TheVariants as records
use Rattle.mq_frame.specs.Frames.{ident_bytes}
use Rattle.mq_record.specs.Room.{Buffered, with_piece}
use Rattle.mq_record.specs.Records.{record_bytes}
use Rattle.mq_spec_manager.specs.Agents.{prepared_doubt, prepare}
use Rattle.mq_calls.specs.declared.agents.PrepareFault.TheVariants as prepare_faults
use Rattle.mq_calls.specs.declared.agents.AgentStop.TheVariants as agent_stops
use Rattle.mq_place.specs.States.{on_queues}
use Rattle.mq_core.specs.Views.{PartsValue}
use Rattle.mq_core.specs.Placing.{with_states}
use Rattle.mq_core.specs.Forced.{KeepsSeats}
use Rattle.mq_core.specs.Writes.{FitsRecord}
use Rattle.mq_get.specs.Rooms.{IsRoomy}

-- a message is there, and lasts
abbrev pub lasts : Option Message → Bool
lasts None = false
lasts (Some m) = is_persistent m

-- the row of an ident is gone
abbrev pub removed_one : List ℕ → Ident → PartsValue → PartsValue
removed_one queue ident x = with_states (on_queues (kept_in (Among queue (ident ∷ []))) x.queues.states) x

-- an ident more in the body
unfoldable pub ident_put : Ident → Buffered → Buffered
ident_put i b = with_piece (ident_bytes i) b

-- the record of a unit in doubt
abbrev pub doubt_record : List ℕ → InDoubt → LogRecord
doubt_record channel d = records.Prepared channel d.unit d.last d.queue d.idents

-- its bytes stand in the body, and there is room for it
pub record IsFilled (r : LogRecord) (x y : PartsValue) : Type 0 where
  pub roomy : IsRoomy (need r) x y
  pub bytes : y.body.bytes ≡ record_bytes r
  pub size : length (record_bytes r) ≡ record_size r
  pub fits : FitsRecord r

-- the unit in doubt that a batch becomes
abbrev pub IsDoubtOf : InDoubt → ℕ → Option Batch → Type 0
IsDoubtOf d last None = ⊥
IsDoubtOf d last (Some b) = d ≡ prepared_doubt last b

-- a batch can be prepared
pub record CanDoubt (d : InDoubt) (channel : List ℕ) (last : ℕ) (p : Plain) : Type 0 where
  pub batch : IsDoubtOf d last (batch_of channel p.channels.batches)
  pub few : length d.idents ≤ 252645129
  pub fits : is_full (need (doubt_record channel d)) p ≡ false

abbrev pub Doubts : List ℕ → ℕ → Plain → Result (Option InDoubt) PrepareFault → Type 0
Doubts channel last p (Ok None) = prepare channel last p ≡ say tt
Doubts channel last p (Ok (Some d)) = CanDoubt d channel last p
Doubts channel last p (Err prepare_faults.NoRoom) = prepare channel last p ≡ Refuse prepare_faults.NoRoom
Doubts channel last p (Err (prepare_faults.Stop stop)) = stop ≡ agent_stops.NoMemory

-- the batch of a channel is no more
abbrev pub without_one : List ℕ → ChannelEnds → ChannelEnds
without_one channel e = record e { batches = filter (λ (b : Batch). not (bytes_eq channel b.channel)) e.batches }

-- a receiver that has hardened something is bound, and each that had a place has one; nothing else has changed
pub record IsBoundNow (channel : List ℕ) (x y : PartsValue) : Type 0 where
  pub same : y ≡ record x { ends = record x.ends { bound = y.ends.bound } }
  pub bound : y.ends.bound.bound ≡ noted_if (is_some (receiver_in channel x.ends.receivers)) channel x.ends.bound.bound
  pub seats : KeepsSeats x.ends.bound.seats y.ends.bound.seats

-- a receiver isn't bound, and keeps its place
abbrev pub receiver_unbound : List ℕ → PartsValue → PartsValue
receiver_unbound channel x = record x { ends = record x.ends { bound = record x.ends.bound { bound = filter (λ (other : List ℕ). not (bytes_eq channel other)) x.ends.bound.bound } } }

-- a batch holds rows
abbrev pub batch_held : Batch → List Ident → PartsValue → PartsValue
batch_held b idents x = record (with_states (on_queues (held_in (Among b.queue idents) (holders.Batch b.channel)) x.queues.states) x) { ends = record x.ends { batches = set_named (λ (k : Batch). k.channel) b x.ends.batches } }
