-- The words of this crate.
pub use Rattle.mq_spec_manager.specs.Heads.{xqh_of, tm_of, is_dead, is_tm, onto_text, trimmed, own_md}
pub use Rattle.mq_spec_manager.specs.Handles.{is_other, is_present, live_or, connected, for_connection, for_handle, new_connection, new_hconn, is_other_name, conn_tests, mqconn, is_nothing, reads, is_transmission_queue, is_unfit, is_shut, is_sending, is_in_use, new_handle, open_tests, open_step, option_tests, mqopen, close_handle, close_up, mqclose}
pub use Rattle.mq_spec_manager.specs.Put.{queue_at, dest_at, first_on, default_priority, default_persistent, priority_or, flag_int, persistence_or, id_or, set_or, is_blank, Replies, replies_by, named_by, replies_to, next_ident, filled_by, Here, here, filled, deadline_of, message_put, new_message, is_put_disabled, max_length, max_depth, inhibited_tests, length_tests, full_tests, placing_tests, is_bad_expiry, sync_full, put_need, log_full, put_tests, placed, unit_record, put_part, is_high, sent_answer, put_step, put_message, put_route, handle_route, output_tests, put_handle, put_up, mqput, output_only, put1_resolved, mqput1}
pub use Rattle.mq_spec_manager.specs.Get.{is_destructive, is_under, needs_browse, is_get_disabled, Scan, scan_row, scan, is_at, looked_at, any_id, asked, scanned, read_body, read_md, length_of, got, is_too_long, is_left, persistent_rows, expired_need, taking_need, found_need, scan_need, removal_record, idents_of, removal_part, removal_parts, expired_parts, taking_part, found_part, got_answer, with_row, is_waiting, without_row, get_found, room_tests, get_scanned, get_tests, get_handle, get_up, mqget}
pub use Rattle.mq_spec_manager.specs.Units.{record_of, placed_item, removed_item, placed_did, released_did, taken_item, freed_item, commit_changes, commit_delta, commit_part, mqcmit, backout_part, mqback, mqdisc}
pub use Rattle.mq_spec_manager.specs.Commands.{uses_of, switched_if, renewed_if, renewed, dropped, follows, object_part, planned_step, command, definitions_after}
pub use Rattle.mq_spec_manager.specs.Triggers.{Never, first_due, trigger_message, route_to, takes_it, put_trigger, serve_into, serve_by, serve, trigger_at, trigger_turn}
pub use Rattle.mq_spec_manager.specs.Stops.{stop_changes, at_rest, stop_at, stop, started_record, next_started, started_need, redone, redone_if, calls_of_start, calls_of_empty_start, calls_of_restart, grown, restarted, is_added, lasts, redone_delta, restart_down, restart_at, restart, CanBeKept, Spent, CanReturnWith, CanReturn, CanReturnTold, first_start, cut, last_moment, advance_clock}
