-- The room that a get takes, and what it leaves of a manager's parts.
use Rattle.std.specs.Prelude.{◌≡◌, ℕ, ◌+◌, ◌-◌, ◌<◌, ◌≤◌, List, [], ◌∷◌, map, length, Result, Ok, Err}
use Rattle.mq_disk.specs.declared.cutter.Stop.{Stop}
use Rattle.mq_calls.specs.Words.{Ident, Among, kept_in, held_in, change_connection}
use Rattle.mq_calls.specs.declared.records.Remove.{Remove}
use Rattle.mq_calls.specs.declared.state.Item.{Item}
use Rattle.mq_message.specs.declared.place.Holder.TheVariants as holders
use Rattle.mq_calls.specs.declared.deltas.Why.{Why}
use Rattle.mq_calls.specs.declared.records.LogRecord.TheVariants as records
use Rattle.mq_calls.specs.declared.deltas.Did.TheVariants as did
use Rattle.mq_unit.specs.Told.{Telling, told, told_all}
use Rattle.mq_core.specs.from_handles.Seats.{pended, given_up}
use Rattle.mq_core.specs.from_place.States.{on_queues}
use Rattle.mq_core.specs.from_place.Rooms.{RoomStays}
use Rattle.mq_core.specs.declared.parts.StoppedWrite.TheVariants as writes
use Rattle.mq_core.specs.Views.{PartsValue}
use Rattle.mq_core.specs.Placing.{with_states}
use Rattle.mq_core.specs.Forced.{IsForced, KeepsSeats, downed, given_back, returned, roomier_ends}
use Rattle.mq_calls.specs.declared.deltas.Why.TheVariants as whys
use Rattle.mq_scan.specs.declared.scanning.Met.{Met}
use Rattle.mq_get.specs.declared.leaving.Leaving.{Leaving}

-- there is room for so many bytes of records
pub record IsRoomy (need : ℕ) (x y : PartsValue) : Type 0 where
  pub same : y ≡ record x { log = record x.log { room = y.log.room }; body = y.body }
  pub more : x.log.room ≤ y.log.room
  pub log : x.log.reserved + need ≤ y.log.room
  pub body : x.body.room + length x.body.bytes + need ≤ y.body.room + length y.body.bytes

-- memory was taken for some, and so much room was given back
pub record IsGivenBack (n : ℕ) (x y : PartsValue) : Type 0 where
  pub same : y ≡ record x { ends = roomier_ends x.ends y.ends; log = record x.log { room = y.log.room; spare = y.log.spare }; body = y.body }
  pub log : x.log.room ≤ y.log.room
  pub spare : x.log.spare ≤ y.log.spare
  pub rows : RoomStays x.ends.rows y.ends.rows
  pub seats : KeepsSeats x.ends.bound.seats y.ends.bound.seats
  pub body : x.body.room + length x.body.bytes ≤ y.body.room + length y.body.bytes + n

-- the record of rows that leave was forced, where there is one, or its write was stopped
abbrev pub Writes : List Remove → PartsValue → Result (Unit {0}) Stop → PartsValue → Type 0
Writes [] x (Ok _) y = y ≡ x
Writes [] x (Err stop) y = ⊥
Writes (r ∷ rs) x result y = IsForced (records.Unit [] (r ∷ rs)) x result y

-- the rows are gone; their write was stopped
abbrev pub out_of : List ℕ → List Ident → PartsValue → PartsValue
out_of queue idents x = with_states (on_queues (kept_in (Among queue idents)) x.queues.states) x

abbrev pub downed_out : List ℕ → Leaving → Why → PartsValue → PartsValue
downed_out queue l why x = downed (writes.Removal queue l.removes l.idents why) x

-- a row is held for the unit of a connection
abbrev pub holding : ℕ → List ℕ → Ident → PartsValue → PartsValue
holding number queue ident x = with_states (on_queues (held_in (Among queue (ident ∷ [])) (holders.Unit number)) x.queues.states) x

-- an item more in the unit of a connection, and what it needs of the log is reserved
pub record IsItemMore (number : ℕ) (item : Item) (need : ℕ) (x y : PartsValue) : Type 0 where
  pub same : y ≡ record x {
    desk = record { live = change_connection number (pended item) x.desk.live; last = x.desk.last };
    log = record x.log { reserved = x.log.reserved + need; room = y.log.room };
    body = y.body;
  }
  pub more : x.log.room ≤ y.log.room
  pub room : 0 < need → x.log.reserved + need ≤ y.log.room
  pub within : 0 < need → x.log.reserved + need ≤ x.log.max
  pub body : x.body.room + length x.body.bytes + need ≤ y.body.room + length y.body.bytes

-- the rows are gone and it is told; or their write was stopped, and nothing is told
pub record IsDropped (queue : List ℕ) (l : Leaving) (why : Why) (x : PartsValue) (t : Telling) (y : PartsValue) (u : Telling) : Type 0 where
  pub written : PartsValue
  pub writes : Writes l.removes x (Ok tt) written
  pub gone : y ≡ out_of queue l.idents written
  pub told : u ≡ told_all (map (λ (i : Ident). did.Removed queue i why) l.idents) t

pub record IsStopped (queue : List ℕ) (l : Leaving) (why : Why) (stop : Stop) (x : PartsValue) (t : Telling) (y : PartsValue) (u : Telling) : Type 0 where
  pub written : PartsValue
  pub writes : Writes l.removes x (Err stop) written
  pub gone : y ≡ downed_out queue l why written
  pub told : u ≡ t

abbrev pub Drops : List ℕ → Leaving → Why → PartsValue → Telling → Result (Unit {0}) Stop → PartsValue → Telling → Type 0
Drops queue l why x t (Ok _) y u = IsDropped queue l why x t y u
Drops queue l why x t (Err stop) y u = IsStopped queue l why stop x t y u

-- the last item in the unit of a connection is given up, and what it needed is given back
abbrev pub unheld : ℕ → ℕ → PartsValue → PartsValue
unheld number need x = returned need (record x { desk = record { live = change_connection number given_up x.desk.live; last = x.desk.last } })

-- a row that waits is held behind rows that leave; or their write was stopped, and it is given up
pub record IsHeld (number : ℕ) (queue : List ℕ) (l : Leaving) (met : Met) (x : PartsValue) (t : Telling) (y : PartsValue) (u : Telling) : Type 0 where
  pub mid : PartsValue
  pub left : Telling
  pub dropped : IsDropped queue l whys.Expired x t mid left
  pub held : y ≡ holding number queue met.ident mid
  pub tells : u ≡ told (did.Held queue met.ident (holders.Unit number)) left

pub record IsUnheld (number : ℕ) (queue : List ℕ) (l : Leaving) (need : ℕ) (stop : Stop) (x : PartsValue) (t : Telling) (y : PartsValue) (u : Telling) : Type 0 where
  pub written : PartsValue
  pub writes : Writes l.removes x (Err stop) written
  pub gone : y ≡ downed_out queue l whys.Expired (unheld number need written)
  pub told : u ≡ t

abbrev pub Holds : ℕ → List ℕ → Leaving → Met → ℕ → PartsValue → Telling → Result (Unit {0}) Stop → PartsValue → Telling → Type 0
Holds number queue l met need x t (Ok _) y u = IsHeld number queue l met x t y u
Holds number queue l met need x t (Err stop) y u = IsUnheld number queue l need stop x t y u
