use Rattle.std.proofs.Common.{◌≡◌, ℕ, ◌<◌, ◌∙◌, Bool, true, sym, ap, subst, refl, arith}
use Rattle.std.specs.Prelude.{List, [], ◌∷◌, ◌++◌, Some, Ok, Err}
use Rattle.mq_base.specs.Outside.{Rose}
use Rattle.mq_disk.specs.declared.cutter.Stop.{Stop}
use Rattle.mq_log.specs.Force.{Stops}
use Rattle.mq_calls.specs.declared.deltas.Did.TheVariants as did
use Rattle.mq_calls.specs.declared.deltas.Why.TheVariants as whys
use Rattle.mq_calls.specs.declared.records.LogRecord.TheVariants as records
use Rattle.mq_calls.specs.Words.{ManagerValue, Plain, Noted, Step, MeetsOrWants, Do, Among, is_up, stored, freeze, logged, apply}
use Rattle.mq_calls.specs.declared.deltas.Did.{Did}
use Rattle.mq_calls.specs.declared.records.LogRecord.{LogRecord}
use Rattle.mq_calls.specs.declared.commands.Halt.{Halt}
use Rattle.mq_calls.specs.State.Change.{Leave}
use Rattle.mq_calls.specs.Meeting.Wants.{Anywhere}
use Rattle.mq_spec_manager.specs.Words.{Never}
use Rattle.mq_spec_manager.specs.Agents.{HasFreeRow, row_with, discard}
use Rattle.mq_get.specs.from_unit.Told.{Telling}
use Rattle.mq_core.specs.declared.parts.StoppedWrite.{StoppedWrite}
use Rattle.mq_core.specs.Views.{PartsValue, plain_of, frozen_of, noted}
use Rattle.mq_core.specs.Ties.{Tied, mode_is_up}
use Rattle.mq_core.proofs.MeetLaws.{mode_up}
use Rattle.mq_core.proofs.PutLaws.{tied_roomier}
use Rattle.mq_agents.specs.Ends.{halt_of}
use Rattle.mq_agents.specs.Removing.{lasts}
use Rattle.mq_calls.specs.declared.commands.Halt.TheVariants as halts
use Rattle.mq_agents.proofs.WriteLaws.{wanted_meets, broke_told, wrote_as, broke_as, halt_stopped, forced_tied, forced_seen, forced_mode, stopped_seen, stopped_tied}
use Rattle.mq_agents.proofs.RemoveLaws.{one_part, one_step, discards_as, tied_removed, removed_view}
use Rattle.mq_core.specs.Values.{CoreValue, manager_of, bodies_in, behind_record, pending_record}
use Rattle.mq_core.proofs.WriteLaws.{forced_bodies, roomier_bodies, stopped_bodies, writes_as}
use Rattle.mq_agents.proofs.discarding.discard_forced.Goals as goal

pub invariant_of-core-in-Err-force_remove : goal.invariant_of-core-in-Err-force_remove
invariant_of-core-in-Err-force_remove g c =
    let v = c.core.view_is ∙ c.begin_call.ensures in
    let plain = ap (λ (w : CoreValue). w.plain) v in
    let p : Plain = c.args.core.now.plain in
    let x : PartsValue = c.core.inside.parts in
    let queue = c.args.queue.now in
    let ident = c.args.ident.now in
    let y : PartsValue = c.make_record_room.new.parts in
    let z : PartsValue = c.force_remove.new.parts in
    let r : LogRecord = records.Unit [] (record { queue = queue; ident = ident } ∷ []) in
    let h = c.in-Ok-make_record_room.ensures.ok in
    subst Tied (sym c.go_down.ensures) (stopped_tied c.in-Ok-removal.write r 79 c.in-Err-force_remove.stop x y z h c.in-Err-force_remove.ensures c.core.invariant)

pub returns-in-Err-force_remove-clause-meets : goal.returns-in-Err-force_remove-clause-meets
unfolding one_step
returns-in-Err-force_remove-clause-meets g c =
    let v = c.core.view_is ∙ c.begin_call.ensures in
    let plain = ap (λ (w : CoreValue). w.plain) v in
    let p : Plain = c.args.core.now.plain in
    let x : PartsValue = c.core.inside.parts in
    let queue = c.args.queue.now in
    let ident = c.args.ident.now in
    let y : PartsValue = c.make_record_room.new.parts in
    let z : PartsValue = c.force_remove.new.parts in
    let r : LogRecord = records.Unit [] (record { queue = queue; ident = ident } ∷ []) in
    let h = c.in-Ok-make_record_room.ensures.ok in
    let there = subst (HasFreeRow queue ident) (sym plain) c.requires.there in
    let step : discard queue ident p ≡ Do tt (one_part queue ident true ∷ []) =
    ap (discard queue ident) (sym plain) ∙ discards_as queue ident x c.core.invariant there
    ∙ ap (λ (b : Bool). one_step queue ident b) (ap (λ (q : Plain). lasts (row_with (Some ident) (stored queue q).rows)) plain ∙ c.requires.kept) in
    let stop = c.in-Err-force_remove.stop in
    let f = c.in-Err-force_remove.ensures in
    let w = c.go_down.new.parts in
    let n : Noted = record { written = r; changes = Leave (Among queue (ident ∷ [])) ∷ []; delta = did.Removed queue ident whys.Discarded ∷ [] } in
    let armed : w.log.armed ≡ z.log.armed = ap (λ (q : PartsValue). q.log.armed) c.go_down.ensures in
    let failed : w.log.faults ≡ z.log.faults = ap (λ (q : PartsValue). q.log.faults) c.go_down.ensures in
    let before : y.log.armed ≡ p.log.armed = ap (λ (q : PartsValue). q.log.armed) h.same ∙ ap (λ (q : Plain). q.log.armed) plain in
    let had : y.log.faults ≡ c.args.core.now.faults = ap (λ (q : PartsValue). q.log.faults) h.same ∙ ap (λ (k : CoreValue). k.faults) v in
    let frozen = ap plain_of c.go_down.ensures ∙ stopped_seen c.in-Ok-removal.write r 79 stop x y z (mode_up (frozen_of x) x.mode (ap (λ (k : CoreValue). is_up k.plain.running) v ∙ c.requires.up)) h f
    ∙ ap (λ (k : StoppedWrite). freeze (noted (frozen_of x) (Some k)) z.log.armed (plain_of x)) c.in-Ok-removal.ensures
    ∙ ap (λ (q : Plain). freeze (Some n) z.log.armed q) plain
    ∙ ap (λ (a : ℕ). freeze (Some n) a p) (sym armed) in
    let new : ManagerValue = record { plain = plain_of w; delta = c.reserve.new.self.dids; stopped = Some stop; faults = w.log.faults } in
    let halt : Halt Never = halt_of {F = Never} c.agent_stop.result in
    let nothing : Unit {0} = tt in
    subst (λ (s : Step Never (Unit {0})). MeetsOrWants (manager_of c.args.core.now) s (Err halt) new) (sym step)
    (broke_as Anywhere (manager_of c.args.core.now) new nothing r (Leave (Among queue (ident ∷ [])) ∷ []) (did.Removed queue ident whys.Discarded ∷ []) stop halt
    (ap (λ a. halt_of {F = Never} a) c.agent_stop.ensures ∙ halt_stopped {F = Never} stop)
    frozen (c.reserve.ensures.dids ∙ ap (λ (k : CoreValue). k.delta) v) refl
    (subst (λ (a : ℕ). Stops a (Err stop) w.log.armed) before (subst (λ (a : ℕ). Stops y.log.armed (Err stop) a) (sym armed) f.ends))
    (omega (arith, had, failed, f.later))
    (λ d. subst (λ (a : ℕ). Rose a w.log.faults) had (subst (λ (a : ℕ). Rose y.log.faults a) (sym failed) (f.disk (ap (λ (s : Stop). Err s) d)))))

pub invariant_of-core-2 : goal.invariant_of-core-2
invariant_of-core-2 g c =
    let v = c.core.view_is ∙ c.begin_call.ensures in
    let plain = ap (λ (w : CoreValue). w.plain) v in
    let p : Plain = c.args.core.now.plain in
    let x : PartsValue = c.core.inside.parts in
    let queue = c.args.queue.now in
    let ident = c.args.ident.now in
    let y : PartsValue = c.make_record_room.new.parts in
    let z : PartsValue = c.force_remove.new.parts in
    let r : LogRecord = records.Unit [] (record { queue = queue; ident = ident } ∷ []) in
    let h = c.in-Ok-make_record_room.ensures.ok in
    subst Tied (sym c.remove_row.ensures.parts) (tied_removed queue ident z (forced_tied r x y z h c.in-Ok-force_remove.ensures c.core.invariant))

pub returns-clause-meets : goal.returns-clause-meets
unfolding one_step
returns-clause-meets g c =
    let v = c.core.view_is ∙ c.begin_call.ensures in
    let plain = ap (λ (w : CoreValue). w.plain) v in
    let p : Plain = c.args.core.now.plain in
    let x : PartsValue = c.core.inside.parts in
    let queue = c.args.queue.now in
    let ident = c.args.ident.now in
    let y : PartsValue = c.make_record_room.new.parts in
    let z : PartsValue = c.force_remove.new.parts in
    let r : LogRecord = records.Unit [] (record { queue = queue; ident = ident } ∷ []) in
    let h = c.in-Ok-make_record_room.ensures.ok in
    let there = subst (HasFreeRow queue ident) (sym plain) c.requires.there in
    let step : discard queue ident p ≡ Do tt (one_part queue ident true ∷ []) =
    ap (discard queue ident) (sym plain) ∙ discards_as queue ident x c.core.invariant there
    ∙ ap (λ (b : Bool). one_step queue ident b) (ap (λ (q : Plain). lasts (row_with (Some ident) (stored queue q).rows)) plain ∙ c.requires.kept) in
    let f = c.in-Ok-force_remove.ensures in
    let w = c.remove_row.new.parts in
    let up = mode_up (frozen_of x) x.mode (ap (λ (q : Plain). is_up q.running) plain ∙ c.requires.up) in
    let still : mode_is_up z.mode ≡ true = ap mode_is_up (forced_mode r 79 x y z (Ok tt) h f) ∙ up in
    let failed : w.log.faults ≡ z.log.faults = ap (λ (q : PartsValue). q.log.faults) c.remove_row.ensures.parts in
    let before : y.log.armed ≡ p.log.armed = ap (λ (q : PartsValue). q.log.armed) h.same ∙ ap (λ (q : Plain). q.log.armed) plain in
    let had : y.log.faults ≡ c.args.core.now.faults = ap (λ (q : PartsValue). q.log.faults) h.same ∙ ap (λ (k : CoreValue). k.faults) v in
    let done = ap plain_of c.remove_row.ensures.parts ∙ removed_view queue ident z still
    ∙ ap (λ (q : Plain). apply (Leave (Among queue (ident ∷ []))) q) (forced_seen r 79 x y z up h f ∙ ap (λ (q : Plain). logged (Some r) q) plain) in
    let told = ap (λ (t : Telling). t.dids) c.remove_row.ensures.told ∙ ap (λ (ds : List Did). ds ++ did.Removed queue ident whys.Discarded ∷ []) (c.reserve.ensures.dids ∙ ap (λ (k : CoreValue). k.delta) v) in
    let new : ManagerValue = record { plain = plain_of w; delta = c.remove_row.new.effects.dids; stopped = c.core.inside.stopped; faults = w.log.faults } in
    let nothing : Unit {0} = tt in
    subst (λ (s : Step Never (Unit {0})). MeetsOrWants (manager_of c.args.core.now) s (Ok nothing) new) (sym step)
    (wrote_as Never Anywhere (manager_of c.args.core.now) new nothing nothing r (Leave (Among queue (ident ∷ [])) ∷ []) (did.Removed queue ident whys.Discarded ∷ []) refl done told (ap (λ (k : CoreValue). k.stopped) v)
    (omega (arith, had, failed, f.later))
    (λ some. let here : 0 < y.log.armed = omega (arith, before, some) in let more = f.ends.1 here in omega (arith, before, more)))

pub returns-in-Err-force_remove-clause-told : goal.returns-in-Err-force_remove-clause-told
unfolding one_step
returns-in-Err-force_remove-clause-told g c =
    let v = c.core.view_is ∙ c.begin_call.ensures in
    let plain = ap (λ (w : CoreValue). w.plain) v in
    let p : Plain = c.args.core.now.plain in
    let x : PartsValue = c.core.inside.parts in
    let queue = c.args.queue.now in
    let ident = c.args.ident.now in
    let y : PartsValue = c.make_record_room.new.parts in
    let z : PartsValue = c.force_remove.new.parts in
    let r : LogRecord = records.Unit [] (record { queue = queue; ident = ident } ∷ []) in
    let h = c.in-Ok-make_record_room.ensures.ok in
    let there = subst (HasFreeRow queue ident) (sym plain) c.requires.there in
    let step : discard queue ident p ≡ Do tt (one_part queue ident true ∷ []) =
    ap (discard queue ident) (sym plain) ∙ discards_as queue ident x c.core.invariant there
    ∙ ap (λ (b : Bool). one_step queue ident b) (ap (λ (q : Plain). lasts (row_with (Some ident) (stored queue q).rows)) plain ∙ c.requires.kept) in
    let stop = c.in-Err-force_remove.stop in
    let f = c.in-Err-force_remove.ensures in
    let w = c.go_down.new.parts in
    let n : Noted = record { written = r; changes = Leave (Among queue (ident ∷ [])) ∷ []; delta = did.Removed queue ident whys.Discarded ∷ [] } in
    let armed : w.log.armed ≡ z.log.armed = ap (λ (q : PartsValue). q.log.armed) c.go_down.ensures in
    let frozen = ap plain_of c.go_down.ensures ∙ stopped_seen c.in-Ok-removal.write r 79 stop x y z (mode_up (frozen_of x) x.mode (ap (λ (k : CoreValue). is_up k.plain.running) v ∙ c.requires.up)) h f
    ∙ ap (λ (k : StoppedWrite). freeze (noted (frozen_of x) (Some k)) z.log.armed (plain_of x)) c.in-Ok-removal.ensures
    ∙ ap (λ (q : Plain). freeze (Some n) z.log.armed q) plain
    ∙ ap (λ (a : ℕ). freeze (Some n) a p) (sym armed) in
    let halt : Halt Never = halt_of {F = Never} c.agent_stop.result in
    let is : halt ≡ halts.Stopped stop = ap (λ a. halt_of {F = Never} a) c.agent_stop.ensures ∙ halt_stopped {F = Never} stop in
    let new : CoreValue = record { plain = plain_of w; delta = c.reserve.new.self.dids; stopped = Some stop; faults = w.log.faults; log = bodies_in w.log } in
    let nothing : Unit {0} = tt in
    writes_as c.args.core.now new (discard queue ident p) (Do nothing (one_part queue ident true ∷ [])) (Err halt) step
    (broke_told c.args.core.now new halt stop nothing (one_part queue ident true) is refl f.fits frozen
    (ap (λ (q : PartsValue). bodies_in q.log) c.go_down.ensures ∙ stopped_bodies r y z stop f ∙ ap (pending_record (Some r)) (ap (λ (q : PartsValue). bodies_in q.log) h.same ∙ ap (λ (k : CoreValue). k.log) v)))

pub returns-clause-told : goal.returns-clause-told
unfolding one_step
returns-clause-told g c =
    let v = c.core.view_is ∙ c.begin_call.ensures in
    let plain = ap (λ (w : CoreValue). w.plain) v in
    let p : Plain = c.args.core.now.plain in
    let x : PartsValue = c.core.inside.parts in
    let queue = c.args.queue.now in
    let ident = c.args.ident.now in
    let y : PartsValue = c.make_record_room.new.parts in
    let z : PartsValue = c.force_remove.new.parts in
    let r : LogRecord = records.Unit [] (record { queue = queue; ident = ident } ∷ []) in
    let h = c.in-Ok-make_record_room.ensures.ok in
    let there = subst (HasFreeRow queue ident) (sym plain) c.requires.there in
    let step : discard queue ident p ≡ Do tt (one_part queue ident true ∷ []) =
    ap (discard queue ident) (sym plain) ∙ discards_as queue ident x c.core.invariant there
    ∙ ap (λ (b : Bool). one_step queue ident b) (ap (λ (q : Plain). lasts (row_with (Some ident) (stored queue q).rows)) plain ∙ c.requires.kept) in
    let w = c.remove_row.new.parts in
    let new : CoreValue = record { plain = plain_of w; delta = c.remove_row.new.effects.dids; stopped = c.core.inside.stopped; faults = w.log.faults; log = bodies_in w.log } in
    let nothing : Unit {0} = tt in
    writes_as c.args.core.now new (discard queue ident p) (Do nothing (one_part queue ident true ∷ [])) (Ok nothing) step (
      ap (λ (q : PartsValue). bodies_in q.log) c.remove_row.ensures.parts ∙ forced_bodies r y z c.in-Ok-force_remove.ensures
          ∙ ap (behind_record (Some r)) (ap (λ (q : PartsValue). bodies_in q.log) h.same ∙ ap (λ (k : CoreValue). k.log) v),
      (c.in-Ok-force_remove.ensures.fits, tt),
    )

-- there was no memory
pub invariant_of-core-in-Err-make_record_room : goal.invariant_of-core-in-Err-make_record_room
invariant_of-core-in-Err-make_record_room g c = tied_roomier c.core.inside.parts c.make_record_room.new.parts c.in-Err-make_record_room.ensures.err c.core.invariant

pub returns-in-Err-make_record_room-clause-meets : goal.returns-in-Err-make_record_room-clause-meets
returns-in-Err-make_record_room-clause-meets g c =
    let v = c.core.view_is ∙ c.begin_call.ensures in
    wanted_meets (manager_of c.args.core.now) c.core.inside.parts c.make_record_room.new.parts c.reserve.new.self.dids c.core.inside.stopped (discard c.args.queue.now c.args.ident.now c.args.core.now.plain) c.in-Err-make_record_room.ensures.err
    (ap (λ (w : CoreValue). w.plain) v) (ap (λ (w : CoreValue). w.faults) v) (c.reserve.ensures.dids ∙ ap (λ (w : CoreValue). w.delta) v) (ap (λ (w : CoreValue). w.stopped) v)

pub returns-in-Err-make_record_room-clause-told : goal.returns-in-Err-make_record_room-clause-told
returns-in-Err-make_record_room-clause-told g c = roomier_bodies c.core.inside.parts c.make_record_room.new.parts c.in-Err-make_record_room.ensures.err ∙ ap (λ (w : CoreValue). w.log) (c.core.view_is ∙ c.begin_call.ensures)
