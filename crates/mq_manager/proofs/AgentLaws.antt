-- What holds of a manager between its calls is kept by the calls of channel ends and of the handler.
use Rattle.std.proofs.Common.{ℕ, Bool, true, false, List, [], ◌∷◌}
use Rattle.std.specs.Prelude.{Option, Some, None, Result, Ok, Err, length, filter, not, ◌||◌, ◌++◌}
use Rattle.mq_calls.specs.declared.agents.Note.{Note}
use Rattle.mq_calls.specs.declared.agents.Note.TheVariants as notes
use Rattle.mq_calls.specs.declared.agents.SeizeFault.TheVariants as seize_faults
use Rattle.mq_calls.specs.declared.agents.PrepareFault.TheVariants as prepare_faults
use Rattle.mq_calls.specs.declared.deltas.Did.TheVariants as did
use Rattle.mq_calls.specs.declared.deltas.Why.TheVariants as whys
use Rattle.mq_message.specs.declared.message.Ident.{Ident}
use Rattle.mq_sync.specs.declared.data.End.TheVariants as ends
use Rattle.mq_codes.specs.declared.reason.Reason.TheVariants as reasons
use Rattle.mq_resolve.specs.Resolved.{resolve}
use Rattle.mq_calls.specs.Words.{Reason, Dest, Message, Route, ReceiverData, Luw, Plain, Step, ManagerValue, Wants, MeetsAs, MeetsOrWants, MeetsInRoom, Do, silent, when, local_of, channel_of, batch_of, sender_data, sender_or, is_full, need, is_persistent, apply_all, receiver_data, receiver_or, is_open_for_input, has_held_by_other, has_ident, stored}
use Rattle.mq_calls.specs.declared.state.Batch.{Batch}
use Rattle.mq_calls.specs.declared.commands.Halt.{Halt}
use Rattle.mq_calls.specs.declared.agents.SeizeFault.{SeizeFault}
use Rattle.mq_calls.specs.declared.agents.PrepareFault.{PrepareFault}
use Rattle.mq_calls.specs.Meeting.Wants.{Nowhere, Anywhere}
use Rattle.mq_calls.specs.State.Change.{Seize, SetBound, SetReceiver}
use Rattle.mq_spec_manager.specs.Words.{Never, is_transmission_queue, placed}
use Rattle.mq_spec_manager.specs.Standing.{Standing, standing_at, is_present, drop_row, undoubted, drop_changes}
use Rattle.mq_spec_manager.specs.Standing.Standing.{Absent, InDoubtAt, Present}
use Rattle.mq_spec_manager.specs.Landing.{Landing, landing, land, route_tests}
use Rattle.mq_spec_manager.specs.Receiving.{Landed, land_changes, before, landed_by, landed_unless, landed, received_record, received_part, receive_landed, receive}
use Rattle.mq_spec_manager.specs.Moves.{bare_if, move_full, move_part, move_resolved, move_found, move_row}
use Rattle.mq_spec_manager.specs.Batches.{row_with}
use Rattle.mq_spec_manager.specs.Agents.{IsUp, CanHold, CanHarden, CanMove, HasFreeRow, seize, leave, set_bound, expire, queue_of_sender, expired_rows, channel_queue, hold_batch, release_of, release_batch, prepared_record, prepared_changes, prepare_of, prepare, harden, discard}
use Rattle.mq_law_manager.specs.Facts.{IsSound}
use Rattle.mq_law_manager.specs.Kept.{StepKeeps}
use Rattle.mq_law_manager.proofs.Ending.{joined}
use Rattle.mq_law_manager.proofs.Handling.{seize_keeps, leave_keeps, set_bound_keeps, expire_keeps, discard_keeps, move_row_keeps}
use Rattle.mq_law_manager.proofs.Receiving.{receive_keeps}
use Rattle.mq_law_manager.proofs.Batches.{release_batch_keeps, prepare_keeps, harden_keeps}
use Rattle.mq_law_manager.proofs.Stopping.{hold_batch_keeps}
use Rattle.mq_law_manager.proofs.Stocks.{tested_on, seize_stocked, leave_stocked, bound_stocked, expire_stocked, hold_stocked, release_stocked, prepare_stocked, harden_stocked, discard_stocked, move_stocked, receive_stocked}
use Rattle.mq_manager.specs.Facts.{HasLimit, IsWell}
use Rattle.mq_manager.proofs.LimitLaws.{IsSteady, AllSteady, steady_append, none_steady, part_limit}
use Rattle.mq_manager.proofs.GetLimit.{removals_limit}
use Rattle.mq_manager.proofs.WellLaws.{true_false, well_after}

-- a call of a manager that is up
well_at : {F T : Type 0} (wants : Wants) (v new : ManagerValue) (step : Step F T) (result : Result T (Halt F)) → MeetsAs wants v step result new → IsWell v.plain → IsUp v.plain
    → (IsSound v.plain → StepKeeps IsSound step v.plain) → StepKeeps HasLimit step v.plain → IsWell new.plain
well_at wants v new step result m w up keeps limit = well_after wants v new step result m w (λ d. absurd (true_false _ d up)) keeps limit

-- MAXMSGL stays
seize_limit : (channel : List ℕ) (p : Plain) → HasLimit p → StepKeeps HasLimit (seize channel p) p
seize_limit channel p h =
    let queue = channel_queue (channel_of channel p.definitions) in
    tested_on HasLimit (when (not (is_transmission_queue (local_of queue p.definitions))) seize_faults.BadQueue ∷ when (is_open_for_input queue p || has_held_by_other channel queue p) seize_faults.QueueInUse ∷ [])
    (Do tt (silent (Seize (record { channel = channel; queue = queue }) ∷ []) ∷ [])) p (λ e. (h, tt))

bound_limit : (channel : List ℕ) (b : Bool) (p : Plain) → HasLimit p → StepKeeps HasLimit (set_bound channel b p) p
unfolding AllSteady IsSteady
bound_limit channel b p h = (part_limit (silent (SetBound channel b ∷ [])) p (tt, tt) h, tt)

release_limit : (channel : List ℕ) (o : Option Batch) (p : Plain) → HasLimit p → StepKeeps HasLimit (release_of channel o) p
release_limit channel None p h = tt
release_limit channel (Some b) p h = (h, tt)

prepare_limit : (channel : List ℕ) (last : ℕ) (o : Option Batch) (p : Plain) → HasLimit p → StepKeeps HasLimit (prepare_of channel last o p) p
prepare_limit channel last None p h = tt
prepare_limit channel last (Some b) p h = tested_on HasLimit (when (is_full (need (prepared_record channel last b)) p) prepare_faults.NoRoom ∷ [])
    (Do tt (record { forced = Some (prepared_record channel last b); changes = prepared_changes channel last b (sender_or (sender_data channel p)); delta = did.Prepared channel b.unit ∷ [] } ∷ [])) p (λ e. (h, tt))

harden_limit : (channel : List ℕ) (note : Note) (p : Plain) → HasLimit p → StepKeeps HasLimit (harden channel note p) p
harden_limit channel (notes.Session partner session) p h = (h, tt)
harden_limit channel (notes.Resolved unit true operator) p h = (h, tt)
harden_limit channel (notes.Resolved unit false operator) p h = (h, tt)
harden_limit channel (notes.Bound partner session last) p h = (h, tt)
harden_limit channel (notes.Closed session) p h = (h, tt)
harden_limit channel (notes.SeqSet ends.Sender last) p h = (h, tt)
harden_limit channel (notes.SeqSet ends.Receiver last) p h = (h, tt)

move_steady : (from : List ℕ) (to : Dest) (bare : Bool) (l : Landing) → AllSteady (move_part from to bare l).changes
unfolding AllSteady IsSteady
move_steady from to bare l = (tt, (tt, (tt, tt)))

move_to_limit : (from : List ℕ) (to : Dest) (bare : Bool) (r : Result Route Reason) (m : Message) (p : Plain) → HasLimit p → StepKeeps HasLimit (move_resolved from to bare r m p) p
move_to_limit from to bare (Err reason) m p h = tt
move_to_limit from to bare (Ok route) m p h =
    let l : Landing = landing route m in
    tested_on HasLimit (route_tests route (length l.message.body) p ++ when (move_full from l p) reasons.ResourceProblem ∷ []) (Do tt (move_part from to bare l ∷ [])) p
    (λ e. (part_limit (move_part from to bare l) p (move_steady from to bare l) h, tt))

move_limit : (from : List ℕ) (to : Dest) (bare : Bool) (o : Option Message) (p : Plain) → HasLimit p → StepKeeps HasLimit (move_found from to bare o p) p
move_limit from to bare None p h = tt
move_limit from to bare (Some m) p h = move_to_limit from to bare (resolve p.definitions p.given.name to.queue to.qmgr) (bare_if bare m) p h

-- a batch that lands
drop_steady : (ident : Ident) (s : Standing) → AllSteady (drop_row ident s)
unfolding AllSteady IsSteady
drop_steady ident Absent = tt
drop_steady ident (InDoubtAt queue) = (tt, tt)
drop_steady ident Present = tt

undoubted_steady : (b : Bool) (ident : Ident) → AllSteady (undoubted b ident)
unfolding AllSteady IsSteady
undoubted_steady true ident = (tt, tt)
undoubted_steady false ident = tt

placed_steady : (queue : List ℕ) (m : Message) → AllSteady (placed queue m)
unfolding AllSteady IsSteady
placed_steady queue m = (tt, (tt, tt))

land_steady : (l : Landing) (s : Standing) → AllSteady (land_changes l s)
land_steady l s = steady_append (drop_changes l.message s) (placed l.queue l.message)
    (steady_append (drop_row l.message.ident s) (undoubted (is_persistent l.message) l.message.ident) (drop_steady l.message.ident s) (undoubted_steady (is_persistent l.message) l.message.ident)) (placed_steady l.queue l.message)

LandsSteady : Result Landed Reason → Type 0
LandsSteady (Ok l) = AllSteady l.changes
LandsSteady (Err reason) = Unit {0}

before_steady : (m : Message) (l : Landing) (s : Standing) (rest : Result Landed Reason) → LandsSteady rest → LandsSteady (before m l s rest)
unfolding LandsSteady
before_steady m l s (Err reason) h = tt
before_steady m l s (Ok rest) h = steady_append (land_changes l s) rest.changes (land_steady l s) h

by_steady : (r : Result Landing Reason) (m : Message) (s : Standing) (p : Plain) (rest : Plain → Result Landed Reason) → ((q : Plain) → LandsSteady (rest q)) → LandsSteady (landed_by r m s p rest)
unfolding LandsSteady
by_steady (Err reason) m s p rest h = tt
by_steady (Ok l) m s p rest h = before_steady m l s (rest (apply_all (land_changes l s) p)) (h (apply_all (land_changes l s) p))

unless_steady : (b : Bool) (channel : List ℕ) (m : Message) (s : Standing) (p : Plain) (rest : Plain → Result Landed Reason) → ((q : Plain) → LandsSteady (rest q)) → LandsSteady (landed_unless b channel m s p rest)
unless_steady true channel m s p rest h = h p
unless_steady false channel m s p rest h = by_steady (land channel m p) m s p rest h

landed_steady : (channel : List ℕ) (ms : List Message) (p : Plain) → LandsSteady (landed channel ms p)
unfolding LandsSteady
landed_steady channel [] p = none_steady
landed_steady channel (m ∷ ms) p = unless_steady (is_present (standing_at m p)) channel m (standing_at m p) p (λ q. landed channel ms q) (λ q. landed_steady channel ms q)

side_steady : (channel : List ℕ) (d : ReceiverData) → AllSteady (SetReceiver channel d ∷ [])
unfolding AllSteady IsSteady
side_steady channel d = (tt, tt)

receive_limit : (channel : List ℕ) (unit : Luw) (last : ℕ) (r : Result Landed Reason) (p : Plain) → LandsSteady r → HasLimit p → StepKeeps HasLimit (receive_landed channel unit last r p) p
unfolding LandsSteady
receive_limit channel unit last (Err reason) p s h = tt
receive_limit channel unit last (Ok l) p s h =
    tested_on HasLimit (when (is_full (need (received_record channel unit last l)) p) reasons.ResourceProblem ∷ []) (Do tt (received_part channel unit last l p ∷ [])) p
    (λ e. (part_limit (received_part channel unit last l p) p (steady_append l.changes (SetReceiver channel (record (receiver_or (receiver_data channel p)) { unit = unit; last = last }) ∷ []) s (side_steady channel (record (receiver_or (receiver_data channel p)) { unit = unit; last = last }))) h, tt))

-- call by call
module _ (v new : ManagerValue) (w : IsWell v.plain) (up : IsUp v.plain) where
  pub well_seize : (channel : List ℕ) (result : Result (Unit {0}) (Halt SeizeFault)) → MeetsOrWants v (seize channel v.plain) result new → IsWell new.plain
  well_seize channel result m = let p : Plain = v.plain in
      well_at Anywhere v new (seize channel p) result m w up (λ h. joined (seize channel p) p h (seize_keeps channel p h.facts) (seize_stocked channel p h.stocked)) (seize_limit channel p w.limit)

  pub well_leave : (channel : List ℕ) (result : Result (Unit {0}) (Halt Never)) → MeetsInRoom v (leave channel v.plain) result new → IsWell new.plain
  well_leave channel result m = let p : Plain = v.plain in
      well_at Nowhere v new (leave channel p) result m w up (λ h. joined (leave channel p) p h (leave_keeps channel p h.facts) (leave_stocked channel p h.stocked)) (w.limit, tt)

  pub well_bound : (channel : List ℕ) (b : Bool) (result : Result (Unit {0}) (Halt Never)) → MeetsOrWants v (set_bound channel b v.plain) result new → IsWell new.plain
  well_bound channel b result m = let p : Plain = v.plain in
      well_at Anywhere v new (set_bound channel b p) result m w up (λ h. joined (set_bound channel b p) p h (set_bound_keeps channel b p h.facts) (bound_stocked channel b p h.stocked)) (bound_limit channel b p w.limit)

  pub well_expire : (channel : List ℕ) (result : Result (Unit {0}) (Halt Never)) → MeetsOrWants v (expire channel v.plain) result new → IsWell new.plain
  well_expire channel result m = let p : Plain = v.plain in
      well_at Anywhere v new (expire channel p) result m w up (λ h. joined (expire channel p) p h (expire_keeps channel p h.facts) (expire_stocked channel p h.stocked))
      (removals_limit whys.Expired (queue_of_sender channel p) (expired_rows (queue_of_sender channel p) p) p w.limit)

  pub well_hold : (channel : List ℕ) (unit : Luw) (most : ℕ) (result : Result ℕ (Halt Never)) → CanHold channel v.plain → MeetsOrWants v (hold_batch channel unit most v.plain) result new → IsWell new.plain
  well_hold channel unit most result can m = let p : Plain = v.plain in
      well_at Anywhere v new (hold_batch channel unit most p) result m w up (λ h. joined (hold_batch channel unit most p) p h (hold_batch_keeps channel unit most p can h.facts) (hold_stocked channel unit most p h.stocked)) (w.limit, tt)

  pub well_release : (channel : List ℕ) (result : Result (Unit {0}) (Halt Never)) → MeetsInRoom v (release_batch channel v.plain) result new → IsWell new.plain
  well_release channel result m = let p : Plain = v.plain in
      well_at Nowhere v new (release_batch channel p) result m w up (λ h. joined (release_batch channel p) p h (release_batch_keeps channel p h.facts) (release_stocked channel p h.facts h.stocked))
      (release_limit channel (batch_of channel p.channels.batches) p w.limit)

  pub well_prepare : (channel : List ℕ) (last : ℕ) (result : Result (Unit {0}) (Halt PrepareFault)) → MeetsOrWants v (prepare channel last v.plain) result new → IsWell new.plain
  well_prepare channel last result m = let p : Plain = v.plain in
      well_at Anywhere v new (prepare channel last p) result m w up (λ h. joined (prepare channel last p) p h (prepare_keeps channel last p h.facts) (prepare_stocked channel last p h.facts h.stocked))
      (prepare_limit channel last (batch_of channel p.channels.batches) p w.limit)

  pub well_harden : (channel : List ℕ) (note : Note) (result : Result (Unit {0}) (Halt Never)) → CanHarden channel note v.plain → MeetsOrWants v (harden channel note v.plain) result new → IsWell new.plain
  well_harden channel note result can m = let p : Plain = v.plain in
      well_at Anywhere v new (harden channel note p) result m w up (λ h. joined (harden channel note p) p h (harden_keeps channel note p can h.facts) (harden_stocked channel note p h.stocked)) (harden_limit channel note p w.limit)

  pub well_discard : (queue : List ℕ) (ident : Ident) (result : Result (Unit {0}) (Halt Never)) → HasFreeRow queue ident v.plain → MeetsOrWants v (discard queue ident v.plain) result new → IsWell new.plain
  well_discard queue ident result there m = let p : Plain = v.plain in
      well_at Anywhere v new (discard queue ident p) result m w up (λ h. joined (discard queue ident p) p h (discard_keeps queue ident p h.facts there) (discard_stocked queue ident p h.stocked))
      (removals_limit whys.Discarded queue (filter (has_ident ident) (stored queue p).rows) p w.limit)

  pub well_move : (from : List ℕ) (ident : Ident) (to : Dest) (bare : Bool) (result : Result (Unit {0}) (Halt Reason)) → CanMove from ident bare v.plain → MeetsOrWants v (move_row from ident to bare v.plain) result new → IsWell new.plain
  well_move from ident to bare result can m = let p : Plain = v.plain in
      well_at Anywhere v new (move_row from ident to bare p) result m w up (λ h. joined (move_row from ident to bare p) p h (move_row_keeps from ident to bare p h.facts can) (move_stocked from ident to bare p can h.facts h.stocked))
      (move_limit from to bare (row_with (Some ident) (stored from p).rows) p w.limit)

  pub well_receive : (channel : List ℕ) (unit : Luw) (last : ℕ) (batch : List Message) (result : Result (Unit {0}) (Halt Reason)) → MeetsOrWants v (receive channel unit last batch v.plain) result new → IsWell new.plain
  well_receive channel unit last batch result m = let p : Plain = v.plain in
      well_at Anywhere v new (receive channel unit last batch p) result m w up (λ h. joined (receive channel unit last batch p) p h (receive_keeps channel unit last batch p h.named h.facts) (receive_stocked channel unit last batch p h.stocked))
      (receive_limit channel unit last (landed channel batch p) p (landed_steady channel batch p) w.limit)
