-- The words of the crates below that definitions of this crate use.
pub use Rattle.mq_spec_node.specs.from_cable.Faults.{Offer, Within, due_after, fault_of, made_of, now_of, offered_of}
pub use Rattle.mq_spec_node.specs.from_cable.{Fault}
pub use Rattle.mq_spec_node.specs.from_calls.{Appl, Connection, Did, Get, Got, Handle, Hconn, Hobj, Item, Open, Shelf, Why}
pub use Rattle.mq_spec_node.specs.from_calls.ReturnVariants.{Comes}
pub use Rattle.mq_spec_node.specs.from_calls.ItemVariants.{Put, Take}
pub use Rattle.mq_codes.specs.declared.reason.Reason.{Reason}
pub use Rattle.mq_spec_node.specs.from_frame.{Frame, Seen}
pub use Rattle.mq_spec_node.specs.from_history.Scenarios.{IsScenario}
pub use Rattle.mq_spec_node.specs.from_history.{Actor, Apart, CableLine, Call, Chance, Conflict, Entry, History, ManagerLine, ManagerPlaces, Mark, MonitorLine, Reply, RulesPart, Scenario, ScriptLine, ScriptPart, Section, Step}
pub use Rattle.mq_spec_node.specs.from_message.{Dest, Holder, Ident, Md, Message}
pub use Rattle.mq_spec_node.specs.from_objects.Defaults.{new_manager}
pub use Rattle.mq_spec_node.specs.from_objects.Names.{local_of, locals_of, process_of}
pub use Rattle.mq_spec_node.specs.from_objects.{LocalQueue, Process}
pub use Rattle.mq_spec_node.specs.from_queue.Rows.{has_ident, insert_row, keep, same_ident}
pub use Rattle.mq_spec_node.specs.from_queue.{Row}
pub use Rattle.mq_spec_node.specs.from_receiver.States.{receiver_of}
pub use Rattle.mq_spec_node.specs.from_resolve.Resolved.{resolve}
pub use Rattle.mq_spec_node.specs.from_resolve.{Route}
pub use Rattle.mq_spec_node.specs.from_sc_parse.{Command}
pub use Rattle.mq_spec_node.specs.from_sender.States.{new_sender}
pub use Rattle.mq_spec_node.specs.from_sender.{SenderState}
pub use Rattle.mq_spec_node.specs.from_spec_manager.Agents.{bare_if, dead_message, names_of, stock}
pub use Rattle.mq_spec_node.specs.from_spec_manager.Commands.{definitions_after}
pub use Rattle.mq_spec_node.specs.from_spec_manager.Get.{is_destructive}
pub use Rattle.mq_spec_node.specs.from_spec_manager.Put.{Here, dest_at, handle_route, message_put, queue_at}
pub use Rattle.mq_spec_node.specs.from_spec_manager.Stops.{last_moment}
pub use Rattle.mq_spec_node.specs.from_spec_manager.Triggers.{trigger_message}
pub use Rattle.mq_spec_node.specs.Doers.{by, is_receiver, is_sender}
pub use Rattle.mq_spec_node.specs.Happens.{deed_of, trigger_deed}
pub use Rattle.mq_spec_node.specs.Lines.{call_after, is_none, left_after, lines_by}
pub use Rattle.mq_spec_node.specs.Monitors.{begins, is_opened, monitor_idle, monitor_live, monitor_next, shared}
pub use Rattle.mq_spec_node.specs.Node.{ChannelEnd, Handler, Monitor, Node, Own, ReceiverEnd, Script, Script as OwnScript, SenderEnd, receiver_end, sender_end}
pub use Rattle.mq_spec_node.specs.Node.ChannelEnd.{Receives, Sends}
pub use Rattle.mq_spec_node.specs.Replays.{NoneForeign, Replays, Surroundings, TriggersStand, after, opening_node}
pub use Rattle.mq_spec_node.specs.Scripts.{AreLines, deadline, fresh, script_appl, until_of, wait_of}
pub use Rattle.mq_spec_node.specs.from_calls.Changes.{change_connection, lane_of, new_row}
pub use Rattle.mq_spec_node.specs.from_calls.Reads.{connection_at, handle_at, in_doubt_of, is_persistent, is_up, receiver_data, sender_data, stored}
pub use Rattle.mq_spec_node.specs.from_calls.Recovery.{IsImage}
pub use Rattle.mq_spec_node.specs.from_calls.State.{Given, Plain, Queue}
pub use Rattle.mq_spec_node.specs.from_sync.Settlement.{receiver_or, sender_or}
pub use Rattle.mq_spec_node.specs.from_sync.Units.{no_unit, same_unit}
pub use Rattle.mq_spec_node.specs.from_sync.{InDoubt, ReceiverData, SenderData, Stock, Unit as Luw}
