-- The words of this crate.
pub use Rattle.mq_spec_manager.specs.Seizing.{kept_by, kept, kind_queue, channel_queue, is_sending_kind, is_sender, is_receiver, seize_queue, seize, leave, set_bound, seized_queue, queue_of_sender, is_enabled, expired_rows, stock_of, stock, expire}
pub use Rattle.mq_spec_manager.specs.Batches.{hold_rows, hold_batch, batch_idents, batch_queue, row_with, at_number, batch_row, release_of, release_batch, prepared_record, prepared_doubt, prepared_changes, prepare_of, prepare}
pub use Rattle.mq_spec_manager.specs.Hardening.{held_on, held_rows, settle_change, settle_did, set_last, harden_part, harden}
pub use Rattle.mq_spec_manager.specs.Standing.{Standing, RowAt, row_found, row_of, doubts, is_doubted_by, has_put, is_pending, is_unborn, same_flag, standing_by, standing_at, is_present, drop_row, undoubted, drop_changes, drop_did}
pub use Rattle.mq_spec_manager.specs.Standing.Standing.{Absent, InDoubtAt, Present}
pub use Rattle.mq_spec_manager.specs.Landing.{names_of, Landing, landing, route_tests, dead_md, dead_head, dead_message, can_take_dead, dead_or, kind_uses_dead, uses_dead, dead_letter, land_tested, land_resolved, land}
pub use Rattle.mq_spec_manager.specs.Receiving.{Landed, nothing_landed, add_of, land_changes, before, landed_by, landed_unless, landed, taken_of, messages_taken, received_record, received_part, receive_landed, receive}
pub use Rattle.mq_spec_manager.specs.Moves.{next_row, bare_message, bare_if, moved_record, move_full, moved_forced, move_part, move_landing, move_resolved, move_found, move_row, discard_rows, discard}
pub use Rattle.mq_spec_manager.specs.Conditions.{IsUp, IsSenderHere, IsReceiverHere, HasSeized, HasBatch, HasNoBatch, HasNoDoubt, HoldsNone, CanHold, is_row_in_doubt, NoneInDoubt, IsPreparable, CanPrepare, unit_of, CanHarden, CanReceive, is_ordinary, HasFreeRow, CanMove}
