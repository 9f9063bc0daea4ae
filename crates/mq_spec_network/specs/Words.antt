-- The words of this crate.
pub use Rattle.mq_spec_network.specs.Story.{Line, Earlier, Ranked, part, entries_or, entries_at, IsStory, IsSorted, is_earlier, set_in, pour, weave_from, weave}
pub use Rattle.mq_spec_network.specs.Given.{name_or, name_at, sends_from, receives_at, end_at, ends_from, handlers_from, monitors_from, scripts_from, log_max_or, given_at, own_at, surroundings, moment_or, first_moment}
pub use Rattle.mq_spec_network.specs.Ledger.{Stopped, Users, Ledger, nobody, no_users, places_or, users_or, places_at, users_at, change_at, with_places, with_users, put_on, put_in, place_at, place, is_one_of, leave_queues, idents_at, placed_idents, is_placed_at, take_from, take_if, take, take_got, lose, here_at, connection_of, on_connection, connect, disconnect, resolved_at, opened_by, open_to, close, pend, put_row, put_by, put_through, put, put1_by, put1, get_row, get_by, take_items, place_items, unit_of, back_out, commit, first_placed, first_got, sent_ident, got_unless_left, got_ident, is_ended, is_obeyed, when, is_taken, take_gone, take_all_gone, row_in, moved_to, move_row, move, move_all, idents_of, take_everywhere, dead_reason, row_at, own_or, own_row, is_admitted, place_routed, place_received, place_list, receive, received_on, receive_if, trigger_by, trigger_for, trigger, obey, stop, stop_if, connect_if, open_if, close_if, post_call, post, cut, at_moment, found, up_again, come_up, returned, posted, ledger, rows_in, ledger_rows}
pub use Rattle.mq_spec_network.specs.Standing.{cable_named, cable_from, last_unit_of, last_unit_at, last_unit, is_doubted, counts_there, is_held_there, standing_in, standing_of, standing, row_told, rows_told, node_after, managers_from, managers_at, opening_managers, stored_standing, places_of, opening_ledger_of, opening_ledger}
pub use Rattle.mq_spec_network.specs.Conflict.{Deed, deeds_in, deeds, Told, told_by, told_after, commits, committed_in, was_last, told_of, first_told_at, first_told_by, first_told, is_committed, is_past, agrees, conflict_of, conflict_did, conflict_in, first_conflict, conflict, NoConflict}
pub use Rattle.mq_spec_network.specs.Order.{Before, Forced, sent_idents, forced_by, forced_after, forced_in, others, is_forced, unforced, KeepsQueue, KeepsList, KeepsOrder, messages_or, messages_of, messages_found, committed_messages, unit_received, OrderAt, AllInOrderFrom, AllInOrder}
pub use Rattle.mq_spec_network.specs.Apart.{first_of, case, sender_at, receiver_at, is_other, is_above, doubt_case, cable_cases, cable_apart, cables_apart, idents_in, row_idents, standing_idents, known, maker, newer_case, ident_case, idents_apart, apart_of, apart, IsJoined}
pub use Rattle.mq_spec_network.specs.Cables.{Lying, whole, spoiled, made, offered_if, offered_by, is_popped, pops_of, pops_item, Takes, Carries, lying}
pub use Rattle.mq_spec_network.specs.Turns.{Network, node_of, node_at, more_at, does, is_up_at, out_of, back_of, waiting, is_empty, is_full, where_there, deed_at, Direction, out_way, back_way, next_number, put_now, due_of, push_refused, extras_of, refused_by, changes, sender_turn, receiver_turn, timeout_turn, is_refused, sender_blocked, receiver_blocked, rests, sender_rests, owes_nothing, sender_idle, receiver_idle, cable_idle, idle_from, is_idle}
pub use Rattle.mq_spec_network.specs.ScriptLines.{lines_left, call_next, at_most, moment_of_try, IsUntil, still_waits}
pub use Rattle.mq_spec_network.specs.Tasks.{Slot, Trying, Task, obey_all, clocks_from, clocks, moment_of, obey_section, run_script, handle_with, watch_by, serve_by, try_one, try_all, finish, tasks_of, restarts_from, tasks_next}
pub use Rattle.mq_spec_network.specs.Steps.{Is, IsNext, Waits, PhaseLine, InPhase, AllInPhase, Turn, turn_in, pushed_of, popped_by, TakesTurn, PumpTakes, pump_on, next_round, PumpSkips, handler_idle, serves_nothing, MonitorGets, scripts_at, begun, is_watching, opens, gives_up, is_cut, once_more, Moves, left_by, Passes, none_due, Served, Goes, AreTriggers}
pub use Rattle.mq_spec_network.specs.Lawful.{IsHistory, IsCarried, ScriptIs, marks_or, marks_at, node_begun, network_begun, handles_idle, ends_idle, mark_of, Went, Stands, IsFar, AreSteps, IsLawful, AreOwn, IsDone}
pub use Rattle.mq_spec_network.specs.Promised.{AreDistinct, standing_on, all_standing, Holds, AreImages, AreDoubtsKnown, Premises, Promised}
