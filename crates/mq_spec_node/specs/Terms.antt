-- The words of the crates below that definitions of this crate use.
pub use Rattle.mq_history.specs.from_calls.{Answer, Appl, Choice, Did, Get, GetAnswer, Got, Hconn, Hobj, Image, Kept, Open, PrepareFault, RestartFault, Return, ScRefusal, SeizeFault, Shown}
pub use Rattle.mq_history.specs.from_calls.ChoiceVariants.{NoMemory, Runs, Stopped}
pub use Rattle.mq_history.specs.from_calls.ReturnVariants.{Fails}
pub use Rattle.mq_codes.specs.Numbers.{number}
pub use Rattle.mq_codes.specs.declared.reason.Reason.{Reason}
pub use Rattle.mq_history.specs.from_disk.{Stop}
pub use Rattle.mq_history.specs.from_frame.{Frame, FrameKind, Seen}
pub use Rattle.mq_history.specs.from_frame.FrameKindVariants.{Msg}
pub use Rattle.mq_spec_manager.specs.from_heads.Headers.{dlh_in, tm_in}
pub use Rattle.mq_spec_manager.specs.from_heads.{Dlh}
pub use Rattle.mq_history.specs.declared.acts.Act.{Act}
pub use Rattle.mq_history.specs.declared.acts.Acted.{Acted}
pub use Rattle.mq_history.specs.declared.acts.OpRefusal.{OpRefusal}
pub use Rattle.mq_history.specs.declared.calls.Actor.{Actor}
pub use Rattle.mq_history.specs.declared.calls.Call.{Call}
pub use Rattle.mq_history.specs.declared.calls.Chance.{Chance}
pub use Rattle.mq_history.specs.declared.calls.Entry.{Entry}
pub use Rattle.mq_history.specs.declared.calls.Reply.{Reply}
pub use Rattle.mq_history.specs.declared.history.History.{History}
pub use Rattle.mq_history.specs.declared.scenario.MonitorLine.{MonitorLine}
pub use Rattle.mq_history.specs.declared.scenario.ScriptPart.{ScriptPart}
pub use Rattle.mq_history.specs.declared.scripts.Body.{Body}
pub use Rattle.mq_history.specs.declared.scripts.GetOptions.{GetOptions}
pub use Rattle.mq_history.specs.declared.scripts.PutOptions.{PutOptions}
pub use Rattle.mq_history.specs.declared.scripts.ScriptLine.{ScriptLine}
pub use Rattle.mq_history.specs.from_message.{Dest, Ident, Md, Message}
pub use Rattle.mq_history.specs.from_base.Name.{name_of, padded}
pub use Rattle.mq_history.specs.from_objects.Names.{channel_of, is_transmission, local_of, locals_of}
pub use Rattle.mq_history.specs.from_objects.{Channel, ChannelKind, Definitions, LocalQueue}
pub use Rattle.mq_history.specs.from_queue.Rows.{is_free, same_ident}
pub use Rattle.mq_history.specs.from_queue.{Row}
pub use Rattle.mq_receiver.specs.After.{bound_by, kept_messages, last_by, receiver_after}
pub use Rattle.mq_receiver.specs.States.{owed_frame}
pub use Rattle.mq_receiver.specs.Table.{receiver_next}
pub use Rattle.mq_receiver.specs.declared.state.Receiver.{Receiver}
pub use Rattle.mq_receiver.specs.declared.state.ReceiverState.{ReceiverState}
pub use Rattle.mq_receiver.specs.declared.turns.ReceiverDoes.{ReceiverDoes}
pub use Rattle.mq_receiver.specs.declared.turns.ReceiverOut.{ReceiverOut}
pub use Rattle.mq_history.specs.from_rules.Choice.{decision, target_name}
pub use Rattle.mq_history.specs.from_rules.{Action, Forward, Rule, Table}
pub use Rattle.mq_history.specs.from_sc_parse.{Command, Op}
pub use Rattle.mq_sender.specs.After.{number_sent, sender_after}
pub use Rattle.mq_sender.specs.Frames.{bind_frame, end_frame, message_frame}
pub use Rattle.mq_sender.specs.States.{awaits, is_running, timed_out}
pub use Rattle.mq_sender.specs.Table.{sender_next}
pub use Rattle.mq_sender.specs.declared.state.Limits.{Limits}
pub use Rattle.mq_sender.specs.declared.state.Sender.{Sender}
pub use Rattle.mq_sender.specs.declared.state.SenderState.{SenderState}
pub use Rattle.mq_sender.specs.declared.turns.SenderDoes.{SenderDoes}
pub use Rattle.mq_sender.specs.declared.turns.SenderOut.{SenderOut}
pub use Rattle.mq_spec_manager.specs.Agents.{batch_row, discard, expire, harden, hold_batch, leave, messages_taken, move_row, names_of, prepare, receive, release_batch, seize, set_bound, stock}
pub use Rattle.mq_spec_manager.specs.Commands.{command}
pub use Rattle.mq_spec_manager.specs.Get.{mqget}
pub use Rattle.mq_spec_manager.specs.Handles.{connected as handles_connected, mqclose, mqconn, mqopen}
pub use Rattle.mq_spec_manager.specs.Heads.{is_dead, is_tm, trimmed}
pub use Rattle.mq_spec_manager.specs.Put.{mqput, mqput1}
pub use Rattle.mq_spec_manager.specs.Stops.{CanBeKept, CanReturn, Spent, advance_clock, calls_of_empty_start, calls_of_restart, cut, first_start, grown, last_moment, redone_if, restart, started_need, stop}
pub use Rattle.mq_spec_manager.specs.Triggers.{first_due, trigger_turn}
pub use Rattle.mq_spec_manager.specs.Units.{mqback, mqcmit, mqdisc}
pub use Rattle.mq_history.specs.from_calls.Images.{begun, lasting, raised}
pub use Rattle.mq_history.specs.from_calls.Reads.{in_doubt_of, is_up, receiver_data, sender_data, stored}
pub use Rattle.mq_history.specs.from_calls.State.{Given, Noted, Plain, Running}
pub use Rattle.mq_history.specs.from_calls.State.Running.{Down, Up}
pub use Rattle.mq_history.specs.from_calls.Steps.{After, Outcome, Part, Possible, Step, Test, calls_of_write, delta_before, delta_of, do_all, refusal, stopped_at, when}
pub use Rattle.mq_history.specs.from_calls.Steps.Outcome.{Answered, Broken, Refused, Wanting}
pub use Rattle.mq_history.specs.from_calls.Steps.Step.{Do, Refuse}
pub use Rattle.mq_sender.specs.from_sync.Settlement.{is_commit, receiver_or, sender_or}
pub use Rattle.mq_sender.specs.from_sync.Units.{no_unit, unit_named, unit_text}
pub use Rattle.mq_sender.specs.from_sync.{Doubt, InDoubt, ReceiverData, SenderData, Settle, Unit as Luw}
