-- Turns of a receiver.
use Rattle.std.specs.Prelude.{ℕ, Bool, true, false, List, [], ◌++◌, Option, Some, None}
use Rattle.std.specs.Option.{option_map}
use Rattle.mq_spec_node.specs.Terms.{Reason, number, Dest, Message, Definitions, channel_of, FrameKind, Seen, Luw, ReceiverDoes, ReceiverOut, Receiver, owed_frame, receiver_next, receiver_after, kept_messages, bound_by, last_by, Plain, Step, Part, Refuse, Do, harden, set_bound, receive, messages_taken}
use Rattle.mq_history.specs.from_frame.SeenVariants as items
use Rattle.mq_history.specs.from_calls.NoteVariants as notes
use Rattle.mq_receiver.specs.declared.turns.ReceiverDoes.TheVariants as does
use Rattle.mq_receiver.specs.declared.turns.ReceiverOut.TheVariants as outs
use Rattle.mq_spec_manager.specs.Agents.{is_receiver}
use Rattle.mq_spec_node.specs.Node.{Node, Own, ReceiverEnd, with_end}
use Rattle.mq_spec_node.specs.Node.ChannelEnd.{Receives}
use Rattle.mq_spec_node.specs.Deeds.{Deed, parts_of, turned}

-- the end's definition is there
abbrev pub is_receiver_defined : List ℕ → Definitions → Bool
is_receiver_defined channel d = is_receiver (channel_of channel d)

-- The messages that a receiver keeps, each with the names that came with it.
abbrev pub kept_kind : FrameKind → List Message → List Message
kept_kind k kept = kept_messages (λ (dest : Dest) (message : Message). record message { route = Some dest }) k kept

abbrev pub kept_seen : Seen → List Message → List Message
kept_seen (items.Frame f) kept = kept_kind f.kind kept
kept_seen _ kept = kept

-- the end after a turn, with these messages kept
abbrev pub receiver_end_after : ReceiverEnd → ReceiverDoes → Seen → ReceiverOut → List Message → Own → Own
receiver_end_after e d seen out kept own = with_end (Receives (record e { machine = receiver_after e.machine d seen out; kept = kept })) own

-- the session is hardened as closed, and the end unbound
abbrev pub close_parts : ReceiverEnd → Plain → List Part
close_parts e p = parts_of (harden e.channel (notes.Closed e.machine.session) p) ++ parts_of (set_bound e.channel false p)

-- the session of BIND is hardened as bound
abbrev pub bind_parts : ReceiverEnd → Receiver → Plain → List Part
bind_parts e bound p = parts_of (harden e.channel (notes.Bound e.partner bound.session bound.last) p) ++ parts_of (set_bound e.channel true p)

-- the batch is placed; or it is refused, its session closed, and ERR owed
abbrev pub place_deed : ReceiverEnd → Luw → Seen → Step Reason (Unit {0}) → Node → Deed
place_deed e unit seen (Refuse reason) n =
    turned (close_parts e n.manager) None (receiver_end_after e (does.Place unit) seen (outs.Refused (number reason)) [] n.own)
place_deed e unit seen (Do reply parts) n =
    record (turned parts None (receiver_end_after e (does.Place unit) seen outs.Done [] n.own)) { received = messages_taken e.channel e.kept n.manager }

abbrev pub receiver_deed_by : ℕ → ReceiverEnd → Seen → ReceiverDoes → Node → Option Deed
receiver_deed_by stamp e seen does.Still n = None
receiver_deed_by stamp e seen does.Ignore n = Some (turned [] None n.own)
receiver_deed_by stamp e seen does.PushOwed n =
    Some (turned [] (option_map (owed_frame stamp) e.machine.owes) (receiver_end_after e does.PushOwed seen outs.Done e.kept n.own))
receiver_deed_by stamp e seen does.Bind n =
    Some (turned (bind_parts e (bound_by seen e.machine) n.manager) None (receiver_end_after e does.Bind seen outs.Done [] n.own))
receiver_deed_by stamp e seen does.Keep n = Some (turned [] None (receiver_end_after e does.Keep seen outs.Done (kept_seen seen e.kept) n.own))
receiver_deed_by stamp e seen (does.Place unit) n =
    Some (place_deed e unit seen (receive e.channel unit (last_by seen e.machine.last) e.kept n.manager) n)
receiver_deed_by stamp e seen does.Again n = Some (turned [] None (receiver_end_after e does.Again seen outs.Done e.kept n.own))
receiver_deed_by stamp e seen does.Close n = Some (turned (close_parts e n.manager) None (receiver_end_after e does.Close seen outs.Done [] n.own))

-- A turn: the first line of the receiver's table that applies.
abbrev pub receiver_deed : ℕ → ReceiverEnd → Seen → Node → Option Deed
receiver_deed stamp e seen n =
    receiver_deed_by stamp e seen (receiver_next e.machine seen (is_receiver_defined e.channel n.manager.definitions)) n
