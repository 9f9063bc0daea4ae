-- The words of this crate and of those below. (The changes of a manager, `State.Change`, are imported where they are used.)
pub use Rattle.mq_calls.specs.Terms.{Reason, Ident, Dest, Md, Message, Place, Want, Holder, Definitions, Object, LocalQueue, Process, Channel, ChannelKind, ManagerAttributes, TriggerType, ObjectChange, Subject, Command, Route, RouteEnd, PathStep, Path, Luw, Settle, End, InDoubt, Doubt, SenderData, ReceiverData, ChannelData, Stock, Shelf, Image, Item, Handle, Connection, Seizure, Batch, SenderSide, ReceiverSide, Choice, Return, Add, Remove, LogRecord, Shown, ScRefusal, RestartFault, BeginFault, Kept, Halt, Why, Did, Hconn, Hobj, Appl, Answer, Input, Open, Sent, Take, Get, Got, GetAnswer, AgentStop, SeizeFault, PrepareFault, PlaceFault, Note, no_unit, unit_named, same_unit, Below, Upto, data_settled, data_prepared, settle_by, is_commit, sender_or, receiver_or, failed_by, value_of, Row, same_ident, has_ident, is_free, is_after, is_wanted, same_place, held_by, keep, retag, insert_row, queue_of, local_of, locals_of, process_of, channel_of, is_transmission, is_by_priority}
pub use Rattle.mq_calls.specs.State.{Given, Queue, Channels, Numbers, LogState, Which, Change, Noted, Running, Plain, fresh_queue}
pub use Rattle.mq_calls.specs.Sizes.{route_size, message_size, add_size, change_text, record_size, need}
pub use Rattle.mq_calls.specs.Reads.{is_up, queue_in, stored, sender_in, sender_data, receiver_in, receiver_data, is_int, is_persistent, connection_at, handle_at, is_put_to, puts_to, depth, has_rows, route_bytes, put_bytes, item_bytes, with_head, unit_need, more_need, reserved, is_full, is_input, is_exclusive, leads_to, any_handle, read_by_handle, exclusive_handle, read_by_sender, is_open_for_input, is_by_unit, has_held, is_by_other, has_held_by_other, is_step, has_step, on_path, seizure_of, batch_of, in_doubt_of, channel_busy, has_priority, free_rows, is_past, is_expired, stands}
pub use Rattle.mq_calls.specs.Condition.{waiting, is_long_ago, by_type, is_served, is_triggered, condition, is_depth}
pub use Rattle.mq_calls.specs.Changes.{set_queue, with_queue, comes_before, noted_if, set_named, set_sender, set_receiver, less_ident, off_list, off_lists, selects, lane_of, new_row, placed_in, place, kept_in, retag_if, held_in, release_if, released_in, made_due, depth_type, try_if, try_trigger, change_connection, change_handle, with_connection, stale_if, made_stale, unseized, without_batch, unbound, set_bound, forgotten, apply, apply_all}
pub use Rattle.mq_calls.specs.Images.{has_batch, rests_by, uncounted_message, lasting_row, lasting_rows, shelf_of, shelves_of, lasting, numbered, queue_on, begun, raised}
pub use Rattle.mq_calls.specs.Steps.{going_on, passed, none_of, Part, Step, Test, when, refusal, refused_or, tested, silent, say, Outcome, After, calls_of_write, forced_calls, calls_of, stands_in, written, logged, do_part, do_all, delta_of, volatile_gone, freeze, note_of, stopped_at, delta_before, chosen, after, write_calls, calls_before, calls_at, IsWrite, StopsAt, Possible, next}
pub use Rattle.mq_calls.specs.Meeting.{ManagerValue, untouched, done_all, broken_at, Wants, WantsBehind, WantsBefore, Ran, StoppedIn, MeetsDone, MeetsRefusal, MeetsAs, Meets, MeetsOrWants, MeetsInRoom, answer_of}
pub use Rattle.mq_calls.specs.Counts.{starts_of, IsCounted, AreAtMost, AreLow}
pub use Rattle.mq_calls.specs.State.Which.{Among, HeldBy, HeldByUnits, Nonpersistent}
pub use Rattle.mq_calls.specs.State.Running.{Up, Down}
pub use Rattle.mq_calls.specs.Steps.Step.{Refuse, Do}
