-- What each change does. Rows are only placed, kept or retagged.
use Rattle.std.specs.Prelude.{ℕ, ℤ, ◌+◌, ◌-◌, ◌==◌, Bool, true, false, not, ◌&&◌, ◌||◌, List, [], ◌∷◌, ◌++◌, if◌then◌else◌, Option, Some, None, is_some, map, filter}
use Rattle.std.specs.List.{list_any}
use Rattle.std.specs.Str.{bytes_eq}
use Rattle.std.specs.Ordering.{is_lt, nat_cmp}
use Rattle.std.specs.Cmp.Lexicographic.{slice_cmp}
use Rattle.mq_calls.specs.Terms.{Ident, Message, Holder, LocalQueue, PathStep, InDoubt, Row, same_ident, insert_row, keep, retag, held_by, is_free, local_of, is_by_priority}
use Rattle.mq_queue.specs.Lanes.{lane_at}
use Rattle.mq_queue.specs.Queues.{freed}
use Rattle.mq_resolve.specs.from_objects.Changed.{changed}
use Rattle.mq_calls.specs.State.{Plain, Queue, Connection, Handle, Seizure, Batch, SenderSide, ReceiverSide, Channels, Which, Change, fresh_queue}
use Rattle.mq_calls.specs.State.Which.{Among, HeldBy, HeldByUnits, Nonpersistent}
use Rattle.mq_calls.specs.State.Change.{Place as Places, Try, Leave, Hold, Release, Connect, Disconnect, OpenHandle, CloseHandle, SetCursor, Pend, EndUnit, MakeStale, CountIdent, ChangeObjects, Renew, DropQueue, SwitchOn, Serve, SetSender, SetReceiver, Undoubt, Seize, Unseize, AddBatch, DropBatch, SetBound, SetMoment, ForgetAll}
use Rattle.mq_calls.specs.Reads.{stored, receiver_in, is_persistent, is_by_unit, has_step}
use Rattle.mq_calls.specs.Condition.{condition, is_depth}

-- a queue takes the place of the one that has its name, or stands last
abbrev pub set_queue : Queue → List Queue → List Queue
set_queue new [] = new ∷ []
set_queue new (q ∷ qs) = if bytes_eq new.name q.name then new ∷ qs else q ∷ set_queue new qs

abbrev pub with_queue : Queue → Plain → Plain
with_queue q p = record p { queues = set_queue q p.queues }

-- What is kept by channel stands in order of the channels' names: the new one takes the place of the one that has its
-- name, or comes before the first whose name is greater.
abbrev pub comes_before : List ℕ → List ℕ → Bool
comes_before a b = is_lt (slice_cmp nat_cmp a b)

abbrev pub set_named : {A : Type 0} → (A → List ℕ) → A → List A → List A
set_named name new [] = new ∷ []
set_named name new (x ∷ xs) =
    if bytes_eq (name new) (name x) then new ∷ xs else (if comes_before (name new) (name x) then new ∷ x ∷ xs else x ∷ set_named name new xs)

abbrev pub set_sender : SenderSide → List SenderSide → List SenderSide
set_sender new sides = set_named (λ (s : SenderSide). s.channel) new sides

abbrev pub set_receiver : ReceiverSide → List ReceiverSide → List ReceiverSide
set_receiver new sides = set_named (λ (r : ReceiverSide). r.channel) new sides

-- a unit in doubt without one of its idents
abbrev pub less_ident : Ident → Option InDoubt → Option InDoubt
less_ident ident None = None
less_ident ident (Some d) = Some (record d { idents = filter (λ other. not (same_ident ident other)) d.idents })

abbrev pub off_list : Ident → SenderSide → SenderSide
off_list ident s = record s { hardened = record s.hardened { in_doubt = less_ident ident s.hardened.in_doubt } }

abbrev pub off_lists : Ident → List SenderSide → List SenderSide
off_lists ident sides = map (off_list ident) sides

-- the rows that are meant, on the queue of a name
abbrev pub selects : Which → List ℕ → Row → Bool
selects (Among queue idents) name row = bytes_eq name queue && list_any (same_ident row.message.ident) idents
selects (HeldBy holder) name row = held_by holder row.by
selects HeldByUnits name row = is_by_unit row.by
selects Nonpersistent name row = not (is_persistent row.message)

-- the lane of a message on a queue: by its priority, or the one lane of first in, first out
abbrev pub lane_of : Option LocalQueue → ℤ → ℕ
lane_of None priority = 0
lane_of (Some q) priority = if is_by_priority q.delivery then lane_at priority else 0

abbrev pub new_row : ℕ → ℕ → Message → Row
new_row lane arrival message = record { place = record { lane = lane; arrival = arrival }; message = message; by = None }

abbrev pub placed_in : ℕ → Message → Queue → Queue
placed_in lane message q = record q { rows = insert_row (new_row lane (q.arrivals + 1) message) q.rows; arrivals = q.arrivals + 1 }

abbrev pub place : List ℕ → Message → Plain → Plain
place name message p = with_queue (placed_in (lane_of (local_of name p.definitions) message.md.priority) message (stored name p)) p

-- the rows that are meant go
abbrev pub kept_in : Which → Queue → Queue
kept_in which q = record q { rows = keep (λ (row : Row). not (selects which q.name row)) q.rows }

-- a row that is meant has another holder
abbrev pub retag_if : Bool → Option Holder → Row → Row
retag_if true by row = record row { by = by }
retag_if false by row = row

-- a free row is held
abbrev pub held_in : Which → Holder → Queue → Queue
held_in which by q = record q { rows = retag (λ (row : Row). retag_if (selects which q.name row && is_free row) (Some by) row) q.rows }

abbrev pub release_if : Bool → Bool → Row → Row
release_if true counted row = freed counted row
release_if false counted row = row

-- a held row is free again, and counts a backout or not
abbrev pub released_in : Which → Bool → Queue → Queue
released_in which counted q = record q { rows = retag (λ (row : Row). release_if (selects which q.name row && not (is_free row)) counted row) q.rows }

-- a trigger becomes due now; a queue with TRIGTYPE(DEPTH) then counts as NOTRIGGER
abbrev pub made_due : Bool → ℕ → Queue → Queue
made_due depth moment q = record q { due = q.due + 1; last_due = Some moment; switched_off = q.switched_off || depth }

abbrev pub depth_type : Option LocalQueue → Bool
depth_type None = false
depth_type (Some q) = is_depth q.trigger_type

abbrev pub try_if : Bool → List ℕ → Plain → Plain
try_if true name p = with_queue (made_due (depth_type (local_of name p.definitions)) p.moment (stored name p)) p
try_if false name p = p

abbrev pub try_trigger : List ℕ → ℤ → Plain → Plain
try_trigger name priority p = try_if (condition (local_of name p.definitions) priority p) name p

-- the connection of a number is changed
abbrev pub change_connection : ℕ → (Connection → Connection) → List Connection → List Connection
change_connection number f [] = []
change_connection number f (c ∷ cs) = if c.number == number then f c ∷ cs else c ∷ change_connection number f cs

abbrev pub change_handle : ℕ → (Handle → Handle) → List Handle → List Handle
change_handle number f [] = []
change_handle number f (h ∷ hs) = if h.number == number then f h ∷ hs else h ∷ change_handle number f hs

abbrev pub with_connection : ℕ → (Connection → Connection) → Plain → Plain
with_connection number f p = record p { connections = change_connection number f p.connections }

abbrev pub stale_if : Bool → Handle → Handle
stale_if true h = record h { stale = true }
stale_if false h = h

abbrev pub made_stale : PathStep → Connection → Connection
made_stale step c = record c { handles = map (λ (h : Handle). stale_if (has_step step h) h) c.handles }

-- what a channel has here is gone: its queue, its batch, its bond
abbrev pub unseized : List ℕ → Channels → Channels
unseized channel c = record c { seizures = filter (λ (s : Seizure). not (bytes_eq channel s.channel)) c.seizures }

abbrev pub without_batch : List ℕ → Channels → Channels
without_batch channel c = record c { batches = filter (λ (b : Batch). not (bytes_eq channel b.channel)) c.batches }

abbrev pub unbound : List ℕ → Channels → Channels
unbound channel c = record c { bound = filter (λ other. not (bytes_eq channel other)) c.bound }

-- a channel's name is noted, once, where that is so
abbrev pub noted_if : Bool → List ℕ → List (List ℕ) → List (List ℕ)
noted_if true channel names = set_named (λ (name : List ℕ). name) channel names
noted_if false channel names = names

-- A receiver is bound, or not. One that has hardened nothing has no session to be bound in, and isn't.
abbrev pub set_bound : Bool → List ℕ → Channels → Channels
set_bound true channel c = record c { bound = noted_if (is_some (receiver_in channel c.receivers)) channel c.bound }
set_bound false channel c = unbound channel c

-- a queue after a stop: no trigger is due
abbrev pub forgotten : Queue → Queue
forgotten q = record q { due = 0; last_due = None; switched_off = false }

-- what each change does
abbrev pub apply : Change → Plain → Plain
apply (Places name message) p = place name message p
apply (Try name priority) p = try_trigger name priority p
apply (Leave which) p = record p { queues = map (kept_in which) p.queues }
apply (Hold which by) p = record p { queues = map (held_in which by) p.queues }
apply (Release which counted) p = record p { queues = map (released_in which counted) p.queues }
apply (Connect c) p = record p { connections = p.connections ++ c ∷ []; numbers = record p.numbers { connections = p.numbers.connections + 1 } }
apply (Disconnect number) p = record p { connections = filter (λ (c : Connection). not (c.number == number)) p.connections }
apply (OpenHandle number h) p = with_connection number (λ c. record c { handles = c.handles ++ h ∷ []; last_handle = c.last_handle + 1 }) p
apply (CloseHandle number handle) p = with_connection number (λ c. record c { handles = filter (λ (h : Handle). not (h.number == handle)) c.handles }) p
apply (SetCursor number handle place) p = with_connection number (λ c. record c { handles = change_handle handle (λ h. record h { cursor = Some place }) c.handles }) p
apply (Pend number item) p = with_connection number (λ c. record c { unit = c.unit ++ item ∷ [] }) p
apply (EndUnit number) p = with_connection number (λ c. record c { unit = [] }) p
apply (MakeStale step) p = record p { connections = map (made_stale step) p.connections }
apply CountIdent p = record p { numbers = record p.numbers { idents = p.numbers.idents + 1 } }
apply (ChangeObjects change) p = record p { definitions = changed change p.definitions }
apply (Renew name) p = with_queue (fresh_queue name) p
apply (DropQueue name) p = record p { queues = filter (λ (q : Queue). not (bytes_eq name q.name)) p.queues }
apply (SwitchOn name) p = with_queue (record (stored name p) { switched_off = false }) p
apply (Serve name) p = with_queue (record (stored name p) { due = (stored name p).due - 1 }) p
apply (SetSender channel d) p = record p { channels = record p.channels { senders = set_sender (record { channel = channel; hardened = d }) p.channels.senders } }
apply (SetReceiver channel d) p = record p { channels = record p.channels { receivers = set_receiver (record { channel = channel; hardened = d }) p.channels.receivers } }
apply (Undoubt ident) p = record p { channels = record p.channels { senders = off_lists ident p.channels.senders } }
apply (Seize s) p = record p { channels = record p.channels { seizures = set_named (λ (x : Seizure). x.channel) s p.channels.seizures } }
apply (Unseize channel) p = record p { channels = unseized channel p.channels }
apply (AddBatch b) p = record p { channels = record p.channels { batches = set_named (λ (x : Batch). x.channel) b p.channels.batches } }
apply (DropBatch channel) p = record p { channels = without_batch channel p.channels }
apply (SetBound channel bound) p = record p { channels = set_bound bound channel p.channels }
apply (SetMoment moment) p = record p { moment = moment }
apply ForgetAll p = record p { connections = []; channels = record p.channels { seizures = []; batches = []; bound = [] }; queues = map forgotten p.queues }

-- changes in order
abbrev pub apply_all : List Change → Plain → Plain
apply_all [] p = p
apply_all (c ∷ cs) p = apply_all cs (apply c p)
