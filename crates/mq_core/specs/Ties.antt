-- What ties the parts of a manager to one another.
use Rattle.std.specs.Prelude.{◌≡◌, ℕ, ◌+◌, ◌^◌, ◌<◌, ◌≤◌, Bool, true, false, List, [], ◌∷◌, Option, Some, None, length, sum_by}
use Rattle.std.specs.List.{AllByRecursion}
use Rattle.std.specs.Str.{bytes_eq}
use Rattle.mq_calls.specs.Words.{Ident, Message, Row, has_ident, Queue, LocalQueue, same_ident, local_of, is_by_priority, puts_to, unit_need}
use Rattle.mq_calls.specs.Recovery.{listed}
use Rattle.mq_calls.specs.declared.state.Connection.{Connection}
use Rattle.mq_calls.specs.declared.state.Item.{Item}
use Rattle.mq_calls.specs.declared.state.Item.TheVariants.{Put, Take}
use Rattle.mq_spec_manager.specs.Words.{last_moment}
use Rattle.mq_sides.specs.from_unit.Forced.{CanBeForced}
use Rattle.mq_place.specs.States.{QueueState, queues_of, state_in, CanPlace, IsNowhere}
use Rattle.mq_core.specs.declared.parts.Mode.{Mode}
use Rattle.mq_core.specs.declared.parts.Mode.TheVariants as modes
use Rattle.mq_calls.specs.from_sync.{InDoubt}
use Rattle.mq_calls.specs.declared.state.SenderSide.{SenderSide}
use Rattle.mq_calls.specs.declared.state.ReceiverSide.{ReceiverSide}
use Rattle.mq_core.specs.declared.parts.ChannelEnds.{ChannelEnds}
use Rattle.mq_sides.specs.Places.{AreByName}
use Rattle.mq_sides.specs.Bonds.{has_seat}
use Rattle.mq_core.specs.Views.{PartsValue}

abbrev pub mode_is_up : Mode → Bool
mode_is_up modes.Up = true
mode_is_up (modes.Down write starts read) = false

-- How often an ident stands: in rows, and in uncommitted puts.
abbrev pub one_if : Bool → ℕ
one_if true = 1
one_if false = 0

abbrev pub times_in_rows : Ident → List Row → ℕ
times_in_rows i [] = 0
times_in_rows i (row ∷ rows) = one_if (has_ident i row) + times_in_rows i rows

abbrev pub times_in_queues : Ident → List Queue → ℕ
times_in_queues i [] = 0
times_in_queues i (q ∷ qs) = times_in_rows i q.rows + times_in_queues i qs

abbrev pub times_in_unit : Ident → List Item → ℕ
times_in_unit i [] = 0
times_in_unit i (Put queue m ∷ items) = one_if (same_ident m.ident i) + times_in_unit i items
times_in_unit i (Take queue ident persistent ∷ items) = times_in_unit i items

abbrev pub times_in_units : Ident → List Connection → ℕ
times_in_units i [] = 0
times_in_units i (c ∷ cs) = times_in_unit i c.unit + times_in_units i cs

-- how many puts of these items go to a queue
abbrev pub waits : List ℕ → List Item → ℕ
waits name [] = 0
waits name (Put queue m ∷ items) = one_if (bytes_eq name queue) + waits name items
waits name (Take queue ident persistent ∷ items) = waits name items

-- what all units need of the log
abbrev pub needs : List Connection → ℕ
needs cs = sum_by (λ (c : Connection). unit_need c.unit) cs

-- the units of all connections can be forced
abbrev pub AreForced : List Connection → Type 0
AreForced cs = AllByRecursion (λ (c : Connection). CanBeForced c.unit) cs

-- the units are the same: what they need, what they put where and with which idents
pub record SameUnits (old new : List Connection) : Type 0 where
  pub need : needs new ≡ needs old
  pub puts : (name : List ℕ) → puts_to name new ≡ puts_to name old
  pub times : (i : Ident) → times_in_units i new ≡ times_in_units i old
  pub forced : AreForced old → AreForced new

-- only connections and handles have changed, and the units are the same
abbrev pub IsSeated : PartsValue → PartsValue → Type 0
IsSeated x y = (y ≡ record x { desk = y.desk }) × SameUnits x.desk.live y.desk.live

-- what of the log's memory is set aside for channel ends: for each unit in doubt the record that settles it, for each session that
-- isn't closed the record that closes it, each with its length and its gate
abbrev pub doubt_bytes : Option InDoubt → ℕ
doubt_bytes None = 0
doubt_bytes (Some d) = 44

abbrev pub session_bytes : Bool → ℕ
session_bytes true = 0
session_bytes false = 34

abbrev pub ends_need : ChannelEnds → ℕ
ends_need e = sum_by (λ (s : SenderSide). doubt_bytes s.hardened.in_doubt) e.senders + sum_by (λ (r : ReceiverSide). session_bytes r.hardened.closed) e.receivers

-- how many rows are noted where the write that settles a unit in doubt is stopped, of all units together
abbrev pub rows_need : ChannelEnds → ℕ
rows_need e = sum_by (λ (s : SenderSide). length (listed s.hardened.in_doubt)) e.senders

-- Units in doubt are settled, and sessions closed, without memory: so many bytes of the log's are set aside for it, there is memory
-- for the rows that are noted (rows that are named here already give theirs), a side is found at its name's place, and each
-- receiver has a place among those that may be bound.
pub record EndsReady (e : ChannelEnds) (spare : ℕ) : Type 0 where
  pub log : ends_need e ≤ spare
  pub rows : rows_need e ≤ e.rows.room + length e.rows.rows
  pub senders : AreByName (λ (s : SenderSide). s.channel) e.senders
  pub receivers : AreByName (λ (r : ReceiverSide). r.channel) e.receivers
  pub seats : AllByRecursion (λ (r : ReceiverSide). has_seat r.channel e.bound.seats ≡ true) e.receivers

-- while it is up: the log takes more, there is memory for what the units need of it, and the channel ends are ready
pub record TiedUp (x : PartsValue) : Type 0 where
  pub live : x.log.live ≡ true
  pub settled : x.log.pending ≡ None
  pub ends : EndsReady x.ends x.log.spare
  pub room : x.log.reserved ≤ x.log.room
  pub body : x.log.reserved ≤ x.body.room + length x.body.bytes

-- the lanes of a queue, as it is kept and as it is defined
abbrev pub state_lanes : Option QueueState → Option Bool
state_lanes None = None
state_lanes (Some s) = Some s.by_priority

abbrev pub local_lanes : Option LocalQueue → Option Bool
local_lanes None = None
local_lanes (Some q) = Some (is_by_priority q.delivery)

-- how many uncommitted puts wait
abbrev pub pending_at : Option QueueState → ℕ
pending_at None = 0
pending_at (Some s) = s.pending

-- Items of a unit that has just ended are on the way to their places; between calls there are none.

-- the queues that are kept are those that are defined; the puts that wait for them are counted
pub record TiedQueues (items : List Item) (x : PartsValue) : Type 0 where
  pub lanes : (name : List ℕ) → state_lanes (state_in name x.queues.states) ≡ local_lanes (local_of name x.defs.definitions)
  pub pending : (name : List ℕ) → pending_at (state_in name x.queues.states) ≡ puts_to name x.desk.live + waits name items

-- no ident stands twice, and none that is still to be given
pub record TiedIdents (items : List Item) (x : PartsValue) : Type 0 where
  pub once : (i : Ident) → times_in_queues i (queues_of x.queues.states) + times_in_units i x.desk.live + times_in_unit i items ≤ 1
  pub given : (i : Ident) → i.manager ≡ x.number → i.incarnation ≡ x.incarnation → x.idents < i.number → times_in_queues i (queues_of x.queues.states) + times_in_units i x.desk.live + times_in_unit i items ≡ 0

-- What ties the parts, while the puts of some items wait, and the idents of some stand beside those of the units.
pub record TiedWith (waiting standing : List Item) (x : PartsValue) : Type 0 where
  pub up : mode_is_up x.mode ≡ true → TiedUp x
  pub reserved : mode_is_up x.mode ≡ true → x.log.reserved ≡ needs x.desk.live
  pub within : mode_is_up x.mode ≡ true → x.log.reserved ≤ x.log.max
  pub queues : TiedQueues waiting x
  pub idents : TiedIdents standing x
  pub forced : AreForced x.desk.live
  pub max : x.log.max < 2 ^ 32
  pub moment : x.moment ≤ last_moment

-- items are on the way, and their idents with them
abbrev pub TiedBut : List Item → PartsValue → Type 0
TiedBut items x = TiedWith items items x

-- and nothing is on the way
abbrev pub Tied : PartsValue → Type 0
Tied x = TiedBut [] x

-- arrivals and triggers of a queue may still be counted, with those that wait
pub record HasCounts (most : ℕ) (s : QueueState) : Type 0 where
  pub arrivals : s.queue.arrivals + s.pending ≤ most
  pub due : s.queue.due + s.pending ≤ most

abbrev pub AreCounted : ℕ → PartsValue → Type 0
AreCounted most x = (name : List ℕ) (s : QueueState) → state_in name x.queues.states ≡ Some s → HasCounts most s

-- A put that waited can be placed.
pub record IsReady (queue : List ℕ) (m : Message) (x : PartsValue) : Type 0 where
  pub state : QueueState
  pub local : LocalQueue
  pub is : state_in queue x.queues.states ≡ Some state
  pub defined : local_of queue x.defs.definitions ≡ Some local
  pub lanes : state.by_priority ≡ is_by_priority local.delivery
  pub can : CanPlace m state
  pub fresh : IsNowhere m.ident x.queues.states
  pub due : state.queue.due + 1 < 2 ^ 64
