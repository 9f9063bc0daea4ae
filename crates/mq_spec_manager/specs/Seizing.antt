-- A sender opens its transmission queue and leaves it; what is kept of a channel; what a sender sees of its queue.
use Rattle.std.specs.Prelude.{ℕ, nat_lt, Bool, true, false, not, ◌||◌, List, [], ◌∷◌, Option, Some, None, length, filter}
use Rattle.mq_sc_apply.specs.from_calls.Words.{Row, local_of, channel_of, Channel, ChannelKind, LocalQueue, ChannelData, ReceiverData, SenderData, Stock, sender_data, receiver_data, is_expired, free_rows, seizure_of, is_open_for_input, has_held_by_other, Plain, Step, when, tested, silent, Do}
use Rattle.mq_sc_apply.specs.from_calls.{SeizeFault, Seizure}
use Rattle.mq_sc_apply.specs.from_objects.ChannelKindVariants as kinds
use Rattle.mq_sc_apply.specs.from_calls.SeizeFaultVariants as seize_faults
use Rattle.mq_sc_apply.specs.from_calls.State.Change.{Seize, Unseize, SetBound}
use Rattle.mq_spec_manager.specs.Words.{expired_parts, is_transmission_queue, Never}

-- What is kept: the hardened data of the ends here; none where nothing was hardened yet.
abbrev pub kept_by : Option SenderData → Option ReceiverData → Option ChannelData
kept_by None None = None
kept_by None (Some r) = Some (record { sender = None; receiver = Some r })
kept_by (Some s) r = Some (record { sender = Some s; receiver = r })

abbrev pub kept : List ℕ → Plain → Option ChannelData
kept channel p = kept_by (sender_data channel p) (receiver_data channel p)

-- The transmission queue that a sender's definition names.
abbrev pub kind_queue : ChannelKind → List ℕ
kind_queue (kinds.Sender batch retry xmitq) = xmitq
kind_queue (kinds.Receiver dead) = []

abbrev pub channel_queue : Option Channel → List ℕ
channel_queue None = []
channel_queue (Some c) = kind_queue c.kind

abbrev pub is_sending_kind : ChannelKind → Bool
is_sending_kind (kinds.Sender batch retry xmitq) = true
is_sending_kind (kinds.Receiver dead) = false

-- a definition is there, of a sender or of a receiver
abbrev pub is_sender : Option Channel → Bool
is_sender None = false
is_sender (Some c) = is_sending_kind c.kind

abbrev pub is_receiver : Option Channel → Bool
is_receiver None = false
is_receiver (Some c) = not (is_sending_kind c.kind)

-- A sender opens its queue, alone.
abbrev pub seize_queue : List ℕ → List ℕ → Plain → Step SeizeFault (Unit {0})
seize_queue channel queue p = tested (
    when (not (is_transmission_queue (local_of queue p.definitions))) seize_faults.BadQueue
    ∷ when (is_open_for_input queue p || has_held_by_other channel queue p) seize_faults.QueueInUse
    ∷ [])
    (Do tt (silent (Seize (record { channel = channel; queue = queue }) ∷ []) ∷ []))

abbrev pub seize : List ℕ → Plain → Step SeizeFault (Unit {0})
seize channel p = seize_queue channel (channel_queue (channel_of channel p.definitions)) p

abbrev pub leave : List ℕ → Plain → Step Never (Unit {0})
leave channel p = Do tt (silent (Unseize channel ∷ []) ∷ [])

abbrev pub set_bound : List ℕ → Bool → Plain → Step Never (Unit {0})
set_bound channel bound p = Do tt (silent (SetBound channel bound ∷ []) ∷ [])

-- the queue that a channel has seized
abbrev pub seized_queue : Option Seizure → List ℕ
seized_queue None = []
seized_queue (Some s) = s.queue

abbrev pub queue_of_sender : List ℕ → Plain → List ℕ
queue_of_sender channel p = seized_queue (seizure_of channel p.channels.seizures)

abbrev pub is_enabled : Option LocalQueue → Bool
is_enabled None = false
is_enabled (Some q) = q.get_enabled

abbrev pub expired_rows : List ℕ → Plain → List Row
expired_rows queue p = filter (is_expired p) (free_rows queue p)

-- what a sender sees of its queue
abbrev pub stock_of : List ℕ → Plain → Stock
stock_of queue p = record {
  enabled = is_enabled (local_of queue p.definitions);
  expired = nat_lt 0 (length (expired_rows queue p));
  free = length (free_rows queue p);
}

abbrev pub stock : List ℕ → Plain → Stock
stock channel p = stock_of (queue_of_sender channel p) p

-- the expired free rows go; this is not refused for want of room in the log
abbrev pub expire : List ℕ → Plain → Step Never (Unit {0})
expire channel p = Do tt (expired_parts (queue_of_sender channel p) (expired_rows (queue_of_sender channel p) p))
