-- A receiver's commit of messages that have landed.
use Rattle.std.specs.Prelude.{◌≡◌, ℕ, ◌+◌, ◌<◌, ◌≤◌, ◌^◌, false, true, List, [], ◌∷◌, ◌++◌, Option, Some, None, Result, Ok, Err}
use Rattle.mq_base.specs.Outside.{Rose}
use Rattle.mq_disk.specs.declared.cutter.Stop.{Stop}
use Rattle.mq_disk.specs.declared.cutter.Stop.TheVariants as stops
use Rattle.mq_log.specs.Force.{Stops}
use Rattle.mq_calls.specs.Words.{Luw, Part, Plain, Reason, Step, Do, receiver_or, receiver_data, set_receiver, logged, freeze, is_full, need, note_of, apply_all}
use Rattle.mq_calls.specs.declared.deltas.Did.{Did}
use Rattle.mq_calls.specs.declared.records.LogRecord.{LogRecord}
use Rattle.mq_calls.specs.declared.state.ReceiverSide.{ReceiverSide}
use Rattle.mq_spec_manager.specs.Agents.{received_record, received_part}
use Rattle.mq_core.specs.declared.parts.Arrival.{Arrival}
use Rattle.mq_core.specs.declared.parts.StoppedWrite.TheVariants as writes
use Rattle.mq_core.specs.Views.{PartsValue, plain_of}
use Rattle.mq_core.specs.Ties.{EndsReady, Tied}
use Rattle.mq_core.specs.Forced.{IsForced, downed}
use Rattle.mq_core.specs.Values.{bodies_in, behind_record, pending_record}
use Rattle.mq_core.specs.Writes.{FitsRecord, all_landed}
use Rattle.mq_moves.specs.from_agents.Written.{with_receivers}
use Rattle.mq_moves.specs.from_agents.{Unwritten}
use Rattle.mq_moves.specs.from_agents.UnwrittenVariants as unwritten
use Rattle.mq_receive.specs.Filling.{adds_size}
use Rattle.mq_receive.specs.Placed.{unexpected_in}

-- its record, its part, the step where the log has room
abbrev pub batch_record : List ℕ → Luw → ℕ → List Arrival → LogRecord
batch_record channel unit last landed = received_record channel unit last (all_landed landed)

abbrev pub batch_part : List ℕ → Luw → ℕ → List Arrival → Plain → Part
batch_part channel unit last landed p = received_part channel unit last (all_landed landed) p

abbrev pub batch_step : List ℕ → Luw → ℕ → List Arrival → Plain → Step Reason (Unit {0})
batch_step channel unit last landed p = Do tt (batch_part channel unit last landed p ∷ [])

-- what the receiver has then
abbrev pub side_after : List ℕ → Luw → ℕ → Plain → ReceiverSide
side_after channel unit last p = record { channel = channel; hardened = record (receiver_or (receiver_data channel p)) { unit = unit; last = last } }

-- the ends stay ready where the receiver of a channel takes over a unit
abbrev pub IsReadyFor : List ℕ → PartsValue → Type 0
IsReadyFor channel x = (side : ReceiverSide) → side.channel ≡ channel → side.hardened.closed ≡ (receiver_or (receiver_data channel (plain_of x))).closed → EndsReady (with_receivers (set_receiver side x.ends.receivers) x.ends) x.log.spare

abbrev pub with_side : ReceiverSide → PartsValue → PartsValue
with_side side x = record x { ends = with_receivers (set_receiver side x.ends.receivers) x.ends }

-- the record was forced, with what it says of the receiver; there was no memory; or its write was stopped
abbrev pub WritesBatch : LogRecord → ReceiverSide → PartsValue → Result (Unit {0}) Unwritten → PartsValue → Type 0
WritesBatch r side x (Ok _) y = IsForced r (with_side side x) (Ok tt) y
WritesBatch r side x (Err unwritten.NoMemory) y = y ≡ x
WritesBatch r side x (Err (unwritten.Stopped stop)) y = IsForced r x (Err stop) y

-- the messages wait no longer, and a stopped write takes the manager down
abbrev pub unawaited : List Arrival → PartsValue → PartsValue
unawaited landed x = record x { queues = unexpected_in landed x.queues }

abbrev pub given_up : Unwritten → List ℕ → Luw → ℕ → List Arrival → PartsValue → PartsValue
given_up unwritten.NoMemory channel unit last landed x = unawaited landed x
given_up (unwritten.Stopped stop) channel unit last landed x = downed (writes.Received channel unit last landed) (unawaited landed x)

-- the commit was done
pub record IsDone (part : Part) (r : LogRecord) (x : PartsValue) (old : List Did) (y : PartsValue) (new : List Did) : Type 0 where
  pub plain : plain_of y ≡ apply_all part.changes (logged (Some r) (plain_of x))
  pub tied : Tied y
  pub told : new ≡ old ++ part.delta
  pub fits : FitsRecord r
  pub bodies : bodies_in y.log ≡ behind_record (Some r) (bodies_in x.log)
  pub later : x.log.faults ≤ y.log.faults
  pub ran : 0 < x.log.armed → 4 < x.log.armed

-- it found no memory
pub record IsUnchanged (x : PartsValue) (old : List Did) (y : PartsValue) (new : List Did) : Type 0 where
  pub plain : plain_of y ≡ plain_of x
  pub tied : Tied y
  pub told : new ≡ old
  pub bodies : bodies_in y.log ≡ bodies_in x.log
  pub faults : y.log.faults ≡ x.log.faults

-- its write was stopped
pub record IsBroken (part : Part) (r : LogRecord) (stop : Stop) (x : PartsValue) (old : List Did) (y : PartsValue) (new : List Did) : Type 0 where
  pub plain : plain_of y ≡ freeze (note_of part (Some r)) y.log.armed (plain_of x)
  pub tied : Tied y
  pub told : new ≡ old
  pub fits : FitsRecord r
  pub bodies : bodies_in y.log ≡ pending_record (Some r) (bodies_in x.log)
  pub ends : Stops x.log.armed (Err stop) y.log.armed
  pub later : x.log.faults ≤ y.log.faults
  pub rose : stop ≡ stops.Disk → Rose x.log.faults y.log.faults

abbrev pub Commits : Part → LogRecord → PartsValue → List Did → Result (Unit {0}) Unwritten → PartsValue → List Did → Type 0
Commits part r x told (Ok _) y tells = IsDone part r x told y tells
Commits part r x told (Err unwritten.NoMemory) y tells = IsUnchanged x told y tells
Commits part r x told (Err (unwritten.Stopped stop)) y tells = IsBroken part r stop x told y tells

-- what its record needs of the log, in bytes, where a number tells it
abbrev pub IsNeed : List Arrival → Option ℕ → Type 0
IsNeed landed (Some n) = n ≡ 50 + adds_size landed
IsNeed landed None = 2 ^ 64 ≤ 50 + adds_size landed

-- and whether it has the room
pub record HasNeed (r : LogRecord) (p : Plain) (n : ℕ) : Type 0 where
  pub is : n ≡ need r
  pub fits : is_full (need r) p ≡ false
  pub small : n < 2 ^ 32

abbrev pub IsNeeded : LogRecord → Plain → Option ℕ → Type 0
IsNeeded r p (Some n) = HasNeed r p n
IsNeeded r p None = is_full (need r) p ≡ true
