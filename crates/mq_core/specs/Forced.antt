-- What a forced write leaves of a manager's parts.
use Rattle.std.specs.Prelude.{◌≡◌, ℕ, ◌+◌, ◌-◌, ◌<◌, ◌≤◌, [], List, length, Result, Some, None, OnOk, IsErrOf}
use Rattle.mq_base.specs.Outside.{Rose}
use Rattle.mq_disk.specs.declared.cutter.Stop.{Stop}
use Rattle.mq_disk.specs.declared.cutter.Stop.TheVariants as stops
use Rattle.mq_calls.specs.Words.{Message, Nonpersistent, record_size, need, kept_in, change_connection}
use Rattle.mq_calls.specs.declared.records.LogRecord.{LogRecord}
use Rattle.mq_calls.specs.declared.state.Item.TheVariants.{Put}
use Rattle.mq_trigger.specs.from_handles.Seats.{pended}
use Rattle.mq_log.specs.State.{Appended}
use Rattle.mq_log.specs.Force.{Stops}
use Rattle.mq_sides.specs.from_record.Records.{record_bytes}
use Rattle.mq_place.specs.States.{on_queues, change_state, expecting, unpended}
use Rattle.mq_place.specs.Rooms.{RoomStays}
pub use Rattle.mq_sides.specs.Bonds.{KeepsSeats}
use Rattle.mq_core.specs.declared.parts.ChannelEnds.{ChannelEnds}
use Rattle.mq_core.specs.declared.parts.StoppedWrite.{StoppedWrite}
use Rattle.mq_core.specs.declared.parts.StoppedWrite.TheVariants as writes
use Rattle.mq_core.specs.declared.parts.Mode.TheVariants as modes
use Rattle.mq_core.specs.Views.{PartsValue}
use Rattle.mq_core.specs.Writes.{FitsRecord}
use Rattle.mq_core.specs.Placing.{with_states}

-- the record was forced into the log, or its write was stopped; nothing else has changed
pub record IsForced (r : LogRecord) (x : PartsValue) (result : Result (Unit {0}) Stop) (y : PartsValue) : Type 0 where
  pub same : y ≡ record x { log = y.log; body = y.body }
  pub log : Appended x.log (record_bytes r) result y.log
  pub fits : FitsRecord r
  pub size : length (record_bytes r) ≡ record_size r
  pub ends : Stops x.log.armed result y.log.armed
  pub room : OnOk result (x.log.room ≤ y.log.room + need r)
  pub body : x.body.room + length x.body.bytes ≤ y.body.room + length y.body.bytes
  pub later : x.log.faults ≤ y.log.faults
  pub disk : IsErrOf result stops.Disk → Rose x.log.faults y.log.faults

-- a stopped write takes the manager down
abbrev pub downed : StoppedWrite → PartsValue → PartsValue
downed write x = record (with_states (on_queues (kept_in Nonpersistent) x.queues.states) x) { mode = modes.Down (Some write) 0 None }

-- ends of channels with the room of others
abbrev pub roomier_ends : ChannelEnds → ChannelEnds → ChannelEnds
roomier_ends e f = record e { rows = f.rows; bound = record e.bound { seats = f.bound.seats } }

-- more room was taken, or set aside, and nothing else has changed
pub record HasMoreRoom (x y : PartsValue) : Type 0 where
  pub same : y ≡ record x { ends = roomier_ends x.ends y.ends; log = record x.log { room = y.log.room; spare = y.log.spare }; body = y.body }
  pub log : x.log.room ≤ y.log.room
  pub spare : x.log.spare ≤ y.log.spare
  pub rows : RoomStays x.ends.rows y.ends.rows
  pub seats : KeepsSeats x.ends.bound.seats y.ends.bound.seats
  pub body : x.body.room + length x.body.bytes ≤ y.body.room + length y.body.bytes

-- There is room for one row more, which waits from now on, and for a record of so many bytes.
pub record IsExpected (queue : List ℕ) (need : ℕ) (x y : PartsValue) : Type 0 where
  pub same : y ≡ record (with_states (change_state queue expecting x.queues.states) x) { log = record x.log { room = y.log.room }; body = y.body }
  pub more : x.log.room ≤ y.log.room
  pub log : x.log.reserved + need ≤ y.log.room
  pub body : x.body.room + length x.body.bytes + need ≤ y.body.room + length y.body.bytes

-- an ident is given, and the room of the record is given back
abbrev pub counted_put : ℕ → PartsValue → PartsValue
counted_put need x = record x { idents = x.idents + 1; body = record { bytes = []; room = x.body.room + length x.body.bytes - need } }

-- a write that was stopped, of a put that waited
abbrev pub downed_put : List ℕ → Message → PartsValue → PartsValue
downed_put queue m x = downed (writes.Put queue m) (with_states (change_state queue unpended x.queues.states) x)

-- A put waits in the unit of a connection: its row, its record and what its end tells have room.
pub record IsPended (number : ℕ) (queue : List ℕ) (m : Message) (need : ℕ) (x y : PartsValue) : Type 0 where
  pub same : y ≡ record (with_states (change_state queue expecting x.queues.states) x) {
    desk = record { live = change_connection number (pended (Put queue m)) x.desk.live; last = x.desk.last };
    idents = x.idents + 1;
    log = record x.log { reserved = x.log.reserved + need; room = y.log.room };
    body = y.body;
  }
  pub more : x.log.room ≤ y.log.room
  pub room : 0 < need → x.log.reserved + need ≤ y.log.room
  pub within : 0 < need → x.log.reserved + need ≤ x.log.max
  pub body : x.body.room + length x.body.bytes + need ≤ y.body.room + length y.body.bytes

-- so many bytes of the log are reserved
pub record IsReserved (need : ℕ) (x y : PartsValue) : Type 0 where
  pub same : y ≡ record x { log = record x.log { reserved = x.log.reserved + need; room = y.log.room }; body = y.body }
  pub more : x.log.room ≤ y.log.room
  pub room : 0 < need → x.log.reserved + need ≤ y.log.room
  pub within : 0 < need → x.log.reserved + need ≤ x.log.max
  pub body : x.body.room + length x.body.bytes + need ≤ y.body.room + length y.body.bytes

-- the room of a record is given back
abbrev pub given_back : ℕ → PartsValue → PartsValue
given_back need x = record x { body = record { bytes = []; room = x.body.room + length x.body.bytes - need } }

abbrev pub returned : ℕ → PartsValue → PartsValue
returned need x = record x { log = record x.log { reserved = x.log.reserved - need }; body = record { bytes = []; room = x.body.room + length x.body.bytes - need } }
