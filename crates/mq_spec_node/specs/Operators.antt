-- Commands on the ends of channels: START, STOP, RESET and RESOLVE.
use Rattle.std.specs.Prelude.{ℕ, ◌-◌, ◌==◌, nat_lt, Bool, true, false, not, ◌&&◌, ◌||◌, List, [], ◌∷◌, ◌++◌, if◌then◌else◌, Option, Some, None, is_some}
use Rattle.mq_spec_node.specs.Terms.{ChannelKind, Channel, channel_of, Settle, InDoubt, ReceiverData, SeizeFault, Op, OpRefusal, Limits, Plain, is_up, sender_data, receiver_data, in_doubt_of, Step, Test, Part, when, refusal, Refuse, Do, seize, leave, release_batch, harden, set_bound, is_commit, receiver_or}
use Rattle.mq_history.specs.from_objects.ChannelKindVariants as kinds
use Rattle.mq_sender.specs.from_sync.EndVariants as end_kinds
use Rattle.mq_history.specs.from_calls.NoteVariants as notes
use Rattle.mq_history.specs.from_calls.SeizeFaultVariants as seize_faults
use Rattle.mq_history.specs.from_sc_parse.OpVariants as ops
use Rattle.mq_history.specs.declared.acts.OpRefusal.TheVariants as reasons
use Rattle.mq_history.specs.declared.acts.Acted.TheVariants as acted
use Rattle.mq_history.specs.declared.calls.Reply.TheVariants as replies
use Rattle.mq_sender.specs.States as senders
use Rattle.mq_receiver.specs.States as receivers
use Rattle.mq_spec_node.specs.Node.{Node, Own, ChannelEnd, SenderEnd, ReceiverEnd, sender_named, receiver_named, with_end}
use Rattle.mq_spec_node.specs.Node.ChannelEnd.{Sends, Receives}
use Rattle.mq_spec_node.specs.Deeds.{Deed, told, parts_of}

abbrev pub refused : OpRefusal → Own → Deed
refused reason own = told (replies.Acted (acted.Op reason)) own

abbrev pub operated : List Part → Own → Deed
operated parts own = record (told (replies.Acted acted.Done) own) { parts = parts }

-- the first refusal of a table, or the deed
abbrev pub refused_or : Option OpRefusal → Own → Deed → Deed
refused_or None own deed = deed
refused_or (Some reason) own deed = refused reason own

abbrev pub tested : List (Test OpRefusal) → Own → Deed → Deed
tested ts own deed = refused_or (refusal ts) own deed

-- The end that a channel's definition here speaks of: the end of a cable of that kind.
abbrev pub end_of_kind : List ℕ → ChannelKind → List ChannelEnd → Option ChannelEnd
end_of_kind channel (kinds.Sender batch retry xmitq) ends =
    elim (sender_named channel ends) as (λ x. Option ChannelEnd) [ None ↦ None | Some e ↦ Some (Sends e) ]
end_of_kind channel (kinds.Receiver dead) ends =
    elim (receiver_named channel ends) as (λ x. Option ChannelEnd) [ None ↦ None | Some e ↦ Some (Receives e) ]

abbrev pub end_defined : List ℕ → Option Channel → List ChannelEnd → Option ChannelEnd
end_defined channel None ends = None
end_defined channel (Some c) ends = end_of_kind channel c.kind ends

abbrev pub end_here : List ℕ → Node → Option ChannelEnd
end_here channel n = end_defined channel (channel_of channel n.manager.definitions) n.own.ends

-- START
abbrev pub kind_limits : ℕ → ChannelKind → Limits
kind_limits wrap (kinds.Sender batch retry xmitq) = record { batch_size = batch; sequence_wrap = wrap; short_retry = retry }
kind_limits wrap (kinds.Receiver dead) = record { batch_size = 0; sequence_wrap = wrap; short_retry = 0 }

abbrev pub limits_of : Option Channel → Limits
limits_of None = record { batch_size = 0; sequence_wrap = 0; short_retry = 0 }
limits_of (Some c) = kind_limits c.sequence_wrap c.kind

abbrev pub limits_here : List ℕ → Node → Limits
limits_here channel n = limits_of (channel_of channel n.manager.definitions)

abbrev pub seize_refusal : SeizeFault → OpRefusal
seize_refusal seize_faults.BadQueue = reasons.BadQueue
seize_refusal seize_faults.QueueInUse = reasons.QueueInUse
seize_refusal seize_faults.NoMemory = reasons.NoMemory

-- a sender starts with its queue open, alone, and no tries
abbrev pub sender_started : SenderEnd → Node → Own
sender_started e n =
    with_end (Sends (record e { machine = senders.started (senders.kept_of (sender_data e.channel n.manager)) (limits_here e.channel n) })) n.own

abbrev pub start_seized : SenderEnd → Step SeizeFault (Unit {0}) → Node → Deed
start_seized e (Refuse fault) n = refused (seize_refusal fault) n.own
start_seized e (Do reply parts) n = operated parts (sender_started e n)

abbrev pub start_end : Option ChannelEnd → Node → Deed
start_end None n = refused reasons.NotFound n.own
start_end (Some (Sends e)) n =
    tested (when (senders.is_running e.machine.state) reasons.Running ∷ []) n.own (start_seized e (seize e.channel n.manager) n)
start_end (Some (Receives e)) n =
    tested (when (receivers.is_bound e.machine.state) reasons.Running ∷ []) n.own
    (operated [] (with_end (Receives (record e { machine = receivers.started e.machine })) n.own))

-- STOP. A batch that is not prepared is released, an in-doubt one stays. A receiver closes its session.
abbrev pub is_open : Option ReceiverData → Bool
is_open None = false
is_open (Some d) = nat_lt 0 d.session && not d.closed

abbrev pub close_open : ReceiverEnd → Plain → List Part
close_open e p =
    if is_open (receiver_data e.channel p)
    then parts_of (harden e.channel (notes.Closed (receiver_or (receiver_data e.channel p)).session) p) ++ parts_of (set_bound e.channel false p)
    else parts_of (set_bound e.channel false p)

abbrev pub stop_end : Option ChannelEnd → Node → Deed
stop_end None n = refused reasons.NotFound n.own
stop_end (Some (Sends e)) n =
    operated (parts_of (release_batch e.channel n.manager) ++ parts_of (leave e.channel n.manager))
    (with_end (Sends (record e { machine = senders.stopped e.machine })) n.own)
stop_end (Some (Receives e)) n =
    operated (close_open e n.manager) (with_end (Receives (record e { machine = receivers.stopped e.machine; kept = [] })) n.own)

-- RESET. The last number becomes the given one less 1.
abbrev pub is_bad_number : ℕ → Limits → Bool
is_bad_number seqnum limits = seqnum == 0 || nat_lt limits.sequence_wrap seqnum

abbrev pub is_in_doubt : List ℕ → Node → Bool
is_in_doubt channel n = is_some (in_doubt_of (sender_data channel n.manager))

abbrev pub reset_end : ℕ → Option ChannelEnd → Node → Deed
reset_end seqnum None n = refused reasons.NotFound n.own
reset_end seqnum (Some (Sends e)) n = tested (
    when (is_in_doubt e.channel n) reasons.InDoubt
    ∷ when (senders.is_running e.machine.state) reasons.Running
    ∷ when (is_bad_number seqnum (limits_here e.channel n)) reasons.BadNumber
    ∷ []) n.own
    (operated (parts_of (harden e.channel (notes.SeqSet end_kinds.Sender (seqnum - 1)) n.manager)) n.own)
reset_end seqnum (Some (Receives e)) n = tested (
    when (receivers.is_bound e.machine.state) reasons.Running
    ∷ when (is_bad_number seqnum (limits_here e.channel n)) reasons.BadNumber
    ∷ []) n.own
    (operated (parts_of (harden e.channel (notes.SeqSet end_kinds.Receiver (seqnum - 1)) n.manager))
    (with_end (Receives (record e { machine = receivers.numbered (seqnum - 1) e.machine })) n.own))

-- RESOLVE, at the sender's end of a cable, defined or not
abbrev pub resolve_doubt : SenderEnd → Settle → Option InDoubt → Node → Deed
resolve_doubt e settle None n = refused reasons.NotInDoubt n.own
resolve_doubt e settle (Some d) n = tested (when (senders.is_running e.machine.state) reasons.Running ∷ []) n.own
    (operated (parts_of (harden e.channel (notes.Resolved d.unit (is_commit settle) true) n.manager)) n.own)

abbrev pub resolve_end : Settle → Option SenderEnd → Node → Deed
resolve_end settle None n = refused reasons.NotFound n.own
resolve_end settle (Some e) n = resolve_doubt e settle (in_doubt_of (sender_data e.channel n.manager)) n

abbrev pub operate_up : Op → Node → Deed
operate_up (ops.Start channel) n = start_end (end_here channel n) n
operate_up (ops.Stop channel) n = stop_end (end_here channel n) n
operate_up (ops.Reset channel seqnum) n = reset_end seqnum (end_here channel n) n
operate_up (ops.Resolve channel settle) n = resolve_end settle (sender_named channel n.own.ends) n

abbrev pub operate : Op → Node → Deed
operate op n = tested (when (not (is_up n.manager.running)) reasons.Down ∷ []) n.own (operate_up op n)
