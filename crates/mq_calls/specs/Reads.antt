-- What calls read of a manager.
use Rattle.std.specs.Prelude.{ℕ, ℤ, pos, negsuc, ◌+◌, ◌==◌, nat_lt, nat_le, Bool, true, false, not, ◌&&◌, ◌||◌, List, [], ◌∷◌, if◌then◌else◌, Option, Some, None, length, sum_by, count_by, is_some, filter}
use Rattle.std.specs.List.{list_any}
use Rattle.std.specs.Str.{bytes_eq}
use Rattle.mq_calls.specs.Terms.{Ident, Message, Holder, RouteEnd, PathStep, Input, InDoubt, SenderData, ReceiverData, Row, has_ident, is_free}
use Rattle.mq_queue.specs.from_message.HolderVariants as holders
pub use Rattle.mq_queue.specs.Rows.{is_int, is_persistent, is_by_unit, has_priority}
use Rattle.mq_resolve.specs.declared.route.RouteEnd.TheVariants.{Local, Via}
use Rattle.mq_resolve.specs.declared.route.PathStep.TheVariants as steps
use Rattle.mq_calls.specs.declared.answers.Input.TheVariants as inputs
use Rattle.mq_calls.specs.State.{Plain, Queue, Connection, Handle, Item, Seizure, Batch, SenderSide, ReceiverSide, Running, fresh_queue}
use Rattle.mq_calls.specs.declared.state.Item.TheVariants.{Put, Take}
use Rattle.mq_calls.specs.State.Running.{Up, Down}

abbrev pub is_up : Running → Bool
is_up Up = true
is_up (Down noted starts) = false

-- the local queue of a name; one without rows where none is there
abbrev pub queue_in : List ℕ → List Queue → Queue
queue_in name [] = fresh_queue name
queue_in name (q ∷ qs) = if bytes_eq name q.name then q else queue_in name qs

abbrev pub stored : List ℕ → Plain → Queue
stored name p = queue_in name p.queues

-- the hardened data of a channel's ends, by name
abbrev pub sender_in : List ℕ → List SenderSide → Option SenderData
sender_in channel [] = None
sender_in channel (s ∷ ss) = if bytes_eq channel s.channel then Some s.hardened else sender_in channel ss

abbrev pub sender_data : List ℕ → Plain → Option SenderData
sender_data channel p = sender_in channel p.channels.senders

abbrev pub receiver_in : List ℕ → List ReceiverSide → Option ReceiverData
receiver_in channel [] = None
receiver_in channel (r ∷ rs) = if bytes_eq channel r.channel then Some r.hardened else receiver_in channel rs

abbrev pub receiver_data : List ℕ → Plain → Option ReceiverData
receiver_data channel p = receiver_in channel p.channels.receivers

-- connections and handles, by number
abbrev pub connection_at : ℕ → List Connection → Option Connection
connection_at number [] = None
connection_at number (c ∷ cs) = if c.number == number then Some c else connection_at number cs

abbrev pub handle_at : ℕ → List Handle → Option Handle
handle_at number [] = None
handle_at number (h ∷ hs) = if h.number == number then Some h else handle_at number hs

-- Depth: free committed rows, and uncommitted puts.
abbrev pub is_put_to : List ℕ → Item → Bool
is_put_to name (Put queue message) = bytes_eq name queue
is_put_to name (Take queue ident persistent) = false

abbrev pub puts_to : List ℕ → List Connection → ℕ
puts_to name cs = sum_by (λ (c : Connection). count_by (is_put_to name) c.unit) cs

abbrev pub depth : List ℕ → Plain → ℕ
depth name p = count_by is_free (stored name p).rows + puts_to name p.connections

-- a committed row, free or held, or an uncommitted put
abbrev pub has_rows : List ℕ → Plain → Bool
has_rows name p = nat_lt 0 (length (stored name p).rows + puts_to name p.connections)

-- What a unit has reserved: 14 bytes and its persistent items; nothing where there is none.
abbrev pub route_bytes : Message → ℕ
route_bytes m = if is_some m.route then 96 else 0

abbrev pub put_bytes : Message → ℕ
put_bytes m = 402 + length m.body + route_bytes m

abbrev pub item_bytes : Item → ℕ
item_bytes (Put queue message) = if is_persistent message then put_bytes message else 0
item_bytes (Take queue ident persistent) = if persistent then 65 else 0

abbrev pub with_head : ℕ → ℕ
with_head n = if n == 0 then 0 else 14 + n

abbrev pub unit_need : List Item → ℕ
unit_need items = with_head (sum_by item_bytes items)

-- what one more persistent item of so many bytes takes
abbrev pub more_need : List Item → ℕ → ℕ
more_need items bytes = if sum_by item_bytes items == 0 then 14 + bytes else bytes

abbrev pub reserved : Plain → ℕ
reserved p = sum_by (λ (c : Connection). unit_need c.unit) p.connections

-- the log lacks room for so many bytes more; no bytes always fit
abbrev pub is_full : ℕ → Plain → Bool
is_full bytes p = nat_lt 0 bytes && nat_lt p.given.log_max (p.log.length + reserved p + bytes)

-- Who has a queue open.
abbrev pub is_input : Input → Bool
is_input inputs.No = false
is_input inputs.Shared = true
is_input inputs.Exclusive = true

abbrev pub is_exclusive : Input → Bool
is_exclusive inputs.No = false
is_exclusive inputs.Shared = false
is_exclusive inputs.Exclusive = true

abbrev pub leads_to : List ℕ → RouteEnd → Bool
leads_to name (Local queue) = bytes_eq name queue
leads_to name (Via xq rq rqm) = false

abbrev pub any_handle : (Handle → Bool) → List Connection → Bool
any_handle test cs = list_any (λ (c : Connection). list_any test c.handles) cs

-- a handle has the queue open for input
abbrev pub read_by_handle : List ℕ → Plain → Bool
read_by_handle name p = any_handle (λ (h : Handle). is_input h.how.input && leads_to name h.leads) p.connections

abbrev pub exclusive_handle : List ℕ → Plain → Bool
exclusive_handle name p = any_handle (λ (h : Handle). is_exclusive h.how.input && leads_to name h.leads) p.connections

-- a running sender has it open
abbrev pub read_by_sender : List ℕ → Plain → Bool
read_by_sender name p = list_any (λ (s : Seizure). bytes_eq name s.queue) p.channels.seizures

abbrev pub is_open_for_input : List ℕ → Plain → Bool
is_open_for_input name p = read_by_handle name p || read_by_sender name p

-- a row is held, by a unit or a batch
abbrev pub has_held : List ℕ → Plain → Bool
has_held name p = list_any (λ (row : Row). not (is_free row)) (stored name p).rows

-- a unit, or the batch of another channel, holds a row
abbrev pub is_by_other : List ℕ → Option Holder → Bool
is_by_other channel None = false
is_by_other channel (Some (holders.Unit n)) = true
is_by_other channel (Some (holders.Batch c)) = not (bytes_eq channel c)

abbrev pub has_held_by_other : List ℕ → List ℕ → Plain → Bool
has_held_by_other channel name p = list_any (λ (row : Row). is_by_other channel row.by) (stored name p).rows

-- Paths.
abbrev pub is_step : PathStep → PathStep → Bool
is_step (steps.Queue a) (steps.Queue b) = bytes_eq a b
is_step (steps.Queue a) steps.DefXmitq = false
is_step steps.DefXmitq (steps.Queue b) = false
is_step steps.DefXmitq steps.DefXmitq = true

abbrev pub has_step : PathStep → Handle → Bool
has_step step h = list_any (is_step step) h.path

-- a live handle's path has the step, stale or not
abbrev pub on_path : PathStep → Plain → Bool
on_path step p = any_handle (has_step step) p.connections

-- Channels.
abbrev pub seizure_of : List ℕ → List Seizure → Option Seizure
seizure_of channel [] = None
seizure_of channel (s ∷ ss) = if bytes_eq channel s.channel then Some s else seizure_of channel ss

abbrev pub batch_of : List ℕ → List Batch → Option Batch
batch_of channel [] = None
batch_of channel (b ∷ bs) = if bytes_eq channel b.channel then Some b else batch_of channel bs

abbrev pub in_doubt_of : Option SenderData → Option InDoubt
in_doubt_of None = None
in_doubt_of (Some d) = d.in_doubt

-- the channel runs here, or is in doubt
abbrev pub channel_busy : List ℕ → Plain → Bool
channel_busy channel p =
    is_some (seizure_of channel p.channels.seizures) || list_any (bytes_eq channel) p.channels.bound || is_some (in_doubt_of (sender_data channel p))

abbrev pub free_rows : List ℕ → Plain → List Row
free_rows name p = filter is_free (stored name p).rows

-- the deadline is there and has come
abbrev pub is_past : ℕ → Option ℕ → Bool
is_past moment None = false
is_past moment (Some deadline) = nat_le deadline moment

abbrev pub is_expired : Plain → Row → Bool
is_expired p row = is_past p.moment row.message.deadline

-- the ident stands somewhere at this manager
abbrev pub stands : Ident → Plain → Bool
stands ident p = list_any (λ (q : Queue). list_any (has_ident ident) q.rows) p.queues
