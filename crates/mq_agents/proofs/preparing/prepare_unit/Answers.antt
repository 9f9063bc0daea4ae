use Rattle.std.proofs.Common.{◌≡◌, ◌<◌, ◌∙◌, true, false, sym, ap, subst, refl, arith}
use Rattle.std.specs.Prelude.{List, [], ◌∷◌, ◌++◌, length, Some, Ok, Err}
use Rattle.mq_calls.specs.Words.{ManagerValue, Plain, InDoubt, SenderData, Noted, Step, MeetsOrWants, Do, is_up, is_full, need, batch_of, sender_or, sender_data, logged, set_sender, apply}
use Rattle.mq_calls.specs.declared.deltas.Did.{Did}
use Rattle.mq_calls.specs.declared.state.SenderSide.{SenderSide}
use Rattle.mq_calls.specs.declared.agents.PrepareFault.{PrepareFault}
use Rattle.mq_calls.specs.declared.records.LogRecord.{LogRecord}
use Rattle.mq_calls.specs.State.Change.{DropBatch, SetSender}
use Rattle.mq_calls.specs.Meeting.Wants.{Anywhere}
use Rattle.mq_calls.specs.declared.deltas.Did.TheVariants as did
use Rattle.mq_spec_manager.specs.Agents.{prepare}
use Rattle.mq_get.specs.from_unit.Told.{Telling}
use Rattle.mq_core.specs.declared.parts.ChannelEnds.{ChannelEnds}
use Rattle.mq_core.specs.declared.parts.StoppedWrite.TheVariants as writes
use Rattle.mq_core.specs.Views.{PartsValue, plain_of, frozen_of}
use Rattle.mq_core.specs.Ties.{EndsReady, Tied, mode_is_up}
use Rattle.mq_calls.specs.Recovery.{listed}
use Rattle.mq_core.proofs.MeetLaws.{mode_up}
use Rattle.mq_core.proofs.PutLaws.{roomier_view, tied_roomier}
use Rattle.mq_agents.specs.Written.{IsWhole, with_senders}
use Rattle.mq_agents.specs.Removing.{IsDoubtOf, doubt_record}
use Rattle.mq_agents.specs.Ends.{halt_of}
use Rattle.mq_agents.proofs.WriteLaws.{wanted_meets, wanted_told, roomy_more, more_aside, more_trans, hardened_tied, sender_hardened, unwritten_ends, unwritten_told, hardened_bodies, tied_after, wrote_as}
use Rattle.mq_agents.proofs.DoubtLaws.{doubt_changes, doubt_part, prepares_as, doubt_noted, dropped_view, dropped_tied}
use Rattle.mq_core.specs.Values.{CoreValue, manager_of, bodies_in, behind_record}
use Rattle.mq_core.proofs.WriteLaws.{roomier_bodies, writes_as}
use Rattle.mq_agents.proofs.preparing.prepare_unit.Goals as goal

pub write_doubt-requires-clause-ends : goal.write_doubt-requires-clause-ends
write_doubt-requires-clause-ends g c =
    let plain = ap (λ (w : CoreValue). w.plain) (c.core.view_is ∙ c.begin_call.ensures) in
    let x : PartsValue = c.core.inside.parts in
    let fl = c.in-Ok-fill_prepared.ensures.ok in
    let side : SenderSide = c.in-Ok-kept_sender.kept in
    let up = mode_up (frozen_of x) x.mode (ap (λ (q : Plain). is_up q.running) plain ∙ c.requires.up) in
    subst (λ (q : PartsValue). EndsReady (with_senders (set_sender side q.ends.senders) q.ends) q.log.spare) (sym fl.roomy.same)
    (c.in-Ok-aside_for_doubt.ensures.ready (c.core.invariant.up up).ends side (ap (λ (k : SenderSide). length (listed k.hardened.in_doubt)) c.in-Ok-kept_sender.ensures ∙ sym c.len.ensures))

pub invariant_of-core-in-Err-write_doubt : goal.invariant_of-core-in-Err-write_doubt
invariant_of-core-in-Err-write_doubt g c =
    let v = c.core.view_is ∙ c.begin_call.ensures in
    let plain = ap (λ (w : CoreValue). w.plain) v in
    let p : Plain = c.args.core.now.plain in
    let x : PartsValue = c.core.inside.parts in
    let channel = c.args.channel.now in
    let last = c.args.last in
    let d : InDoubt = c.args.doubt in
    let r : LogRecord = doubt_record channel d in
    let y : PartsValue = c.fill_prepared.new.parts in
    let z : PartsValue = c.write_doubt.new.parts in
    let fl = c.in-Ok-fill_prepared.ensures.ok in
    let first : PartsValue = c.aside_for_doubt.new.parts in
    let more = more_trans x first y c.aside_for_doubt.ensures.more (roomy_more (need r) first y fl.roomy) in
    let size : IsWhole y.body.bytes r = (ap length fl.bytes ∙ fl.size, fl.fits) in
    let old = c.in-Ok-sender_now.old in
    let side : SenderSide = c.in-Ok-kept_sender.kept in
    let e : ChannelEnds = with_senders (set_sender side y.ends.senders) y.ends in
    tied_after c.in-Err-write_doubt.unwritten x y z (writes.Prepared channel last) r y.body.bytes e (more_aside x y more) (λ e. more) fl.bytes size c.in-Err-write_doubt.ensures c.core.invariant

pub returns-in-Err-write_doubt-clause-meets : goal.returns-in-Err-write_doubt-clause-meets
returns-in-Err-write_doubt-clause-meets g c =
    let v = c.core.view_is ∙ c.begin_call.ensures in
    let plain = ap (λ (w : CoreValue). w.plain) v in
    let p : Plain = c.args.core.now.plain in
    let x : PartsValue = c.core.inside.parts in
    let channel = c.args.channel.now in
    let last = c.args.last in
    let d : InDoubt = c.args.doubt in
    let r : LogRecord = doubt_record channel d in
    let y : PartsValue = c.fill_prepared.new.parts in
    let z : PartsValue = c.write_doubt.new.parts in
    let fl = c.in-Ok-fill_prepared.ensures.ok in
    let first : PartsValue = c.aside_for_doubt.new.parts in
    let more = more_trans x first y c.aside_for_doubt.ensures.more (roomy_more (need r) first y fl.roomy) in
    let size : IsWhole y.body.bytes r = (ap length fl.bytes ∙ fl.size, fl.fits) in
    let old = c.in-Ok-sender_now.old in
    let side : SenderSide = c.in-Ok-kept_sender.kept in
    let e : ChannelEnds = with_senders (set_sender side y.ends.senders) y.ends in
    let here : IsDoubtOf d last (batch_of channel (plain_of x).channels.batches) = subst (λ (q : Plain). IsDoubtOf d last (batch_of channel q.channels.batches)) (sym plain) c.requires.batch in
    let fits : is_full (need r) (plain_of x) ≡ false = ap (is_full (need r)) plain ∙ c.requires.fits in
    let was : sender_or (sender_data channel (plain_of x)) ≡ old = sym c.in-Ok-sender_now.ensures in
    let step : prepare channel last p ≡ Do tt (doubt_part channel d old ∷ []) = ap (prepare channel last) (sym plain) ∙ prepares_as d channel last (plain_of x) here fits ∙ ap (λ (s : SenderData). Do tt (doubt_part channel d s ∷ [])) was in
    let note = doubt_noted d channel last x here ∙ ap (λ (s : SenderData). Some (let n : Noted = record { written = r; changes = doubt_changes channel d s; delta = did.Prepared channel d.unit ∷ [] } in n)) was in
    let new : ManagerValue = record { plain = plain_of z; delta = c.reserve.new.self.dids; stopped = c.stop_of-stopped.result; faults = z.log.faults } in
    let nothing : Unit {0} = tt in
    subst (λ (s : Step PrepareFault (Unit {0})). MeetsOrWants (manager_of c.args.core.now) s (Err (halt_of {F = PrepareFault} c.agent_of-agent.result)) new) (sym step)
    (unwritten_ends PrepareFault c.in-Err-write_doubt.unwritten (manager_of c.args.core.now) x y z c.reserve.new.self.dids (writes.Prepared channel last) r (doubt_changes channel d old) (did.Prepared channel d.unit ∷ []) nothing y.body.bytes e
    c.agent_of-agent.result c.stop_of-stopped.result c.agent_of-agent.ensures c.stop_of-stopped.ensures (mode_up (frozen_of x) x.mode (ap (λ (k : CoreValue). is_up k.plain.running) v ∙ c.requires.up)) (more_aside x y more) fl.bytes size c.in-Err-write_doubt.ensures note plain
    (ap (λ (w : CoreValue). w.faults) v) (c.reserve.ensures.dids ∙ ap (λ (w : CoreValue). w.delta) v))

pub invariant_of-core-2 : goal.invariant_of-core-2
invariant_of-core-2 g c =
    let v = c.core.view_is ∙ c.begin_call.ensures in
    let plain = ap (λ (w : CoreValue). w.plain) v in
    let p : Plain = c.args.core.now.plain in
    let x : PartsValue = c.core.inside.parts in
    let channel = c.args.channel.now in
    let last = c.args.last in
    let d : InDoubt = c.args.doubt in
    let r : LogRecord = doubt_record channel d in
    let y : PartsValue = c.fill_prepared.new.parts in
    let z : PartsValue = c.write_doubt.new.parts in
    let fl = c.in-Ok-fill_prepared.ensures.ok in
    let first : PartsValue = c.aside_for_doubt.new.parts in
    let more = more_trans x first y c.aside_for_doubt.ensures.more (roomy_more (need r) first y fl.roomy) in
    let size : IsWhole y.body.bytes r = (ap length fl.bytes ∙ fl.size, fl.fits) in
    let old = c.in-Ok-sender_now.old in
    let side : SenderSide = c.in-Ok-kept_sender.kept in
    let e : ChannelEnds = with_senders (set_sender side y.ends.senders) y.ends in
    subst Tied (sym c.drop_batch.ensures) (dropped_tied channel z (hardened_tied y.body.bytes e x y z (more_aside x y more) c.in-Ok-write_doubt.ensures c.core.invariant))

pub returns-clause-meets : goal.returns-clause-meets
returns-clause-meets g c =
    let v = c.core.view_is ∙ c.begin_call.ensures in
    let plain = ap (λ (w : CoreValue). w.plain) v in
    let p : Plain = c.args.core.now.plain in
    let x : PartsValue = c.core.inside.parts in
    let channel = c.args.channel.now in
    let last = c.args.last in
    let d : InDoubt = c.args.doubt in
    let r : LogRecord = doubt_record channel d in
    let y : PartsValue = c.fill_prepared.new.parts in
    let z : PartsValue = c.write_doubt.new.parts in
    let fl = c.in-Ok-fill_prepared.ensures.ok in
    let first : PartsValue = c.aside_for_doubt.new.parts in
    let more = more_trans x first y c.aside_for_doubt.ensures.more (roomy_more (need r) first y fl.roomy) in
    let size : IsWhole y.body.bytes r = (ap length fl.bytes ∙ fl.size, fl.fits) in
    let old = c.in-Ok-sender_now.old in
    let side : SenderSide = c.in-Ok-kept_sender.kept in
    let e : ChannelEnds = with_senders (set_sender side y.ends.senders) y.ends in
    let here : IsDoubtOf d last (batch_of channel (plain_of x).channels.batches) = subst (λ (q : Plain). IsDoubtOf d last (batch_of channel q.channels.batches)) (sym plain) c.requires.batch in
    let fits : is_full (need r) (plain_of x) ≡ false = ap (is_full (need r)) plain ∙ c.requires.fits in
    let was : sender_or (sender_data channel (plain_of x)) ≡ old = sym c.in-Ok-sender_now.ensures in
    let step : prepare channel last p ≡ Do tt (doubt_part channel d old ∷ []) = ap (prepare channel last) (sym plain) ∙ prepares_as d channel last (plain_of x) here fits ∙ ap (λ (s : SenderData). Do tt (doubt_part channel d s ∷ [])) was in
    let w = c.in-Ok-write_doubt.ensures in
    let up = mode_up (frozen_of x) x.mode (ap (λ (q : Plain). is_up q.running) plain ∙ c.requires.up) in
    let still : mode_is_up y.mode ≡ true = ap (λ (q : PartsValue). mode_is_up q.mode) more.same ∙ up in
    let live : mode_is_up z.mode ≡ true = ap (λ (q : PartsValue). mode_is_up q.mode) w.same ∙ still in
    let done = ap plain_of c.drop_batch.ensures ∙ dropped_view channel z live
    ∙ ap (λ (q : Plain). apply (DropBatch channel) q) (sender_hardened r y.body.bytes side channel y z p still fl.bytes size w (ap (λ (k : SenderSide). k.channel) c.in-Ok-kept_sender.ensures) (roomier_view x y more ∙ plain)
    ∙ ap (λ (k : SenderSide). apply (SetSender channel k.hardened) (logged (Some r) p)) c.in-Ok-kept_sender.ensures) in
    let before : y.log.armed ≡ p.log.armed = ap (λ (q : PartsValue). q.log.armed) more.same ∙ ap (λ (q : Plain). q.log.armed) plain in
    let had : y.log.faults ≡ c.args.core.now.faults = ap (λ (q : PartsValue). q.log.faults) more.same ∙ ap (λ (k : CoreValue). k.faults) v in
    let failed = ap (λ (q : PartsValue). q.log.faults) c.drop_batch.ensures in
    let told = ap (λ (t : Telling). t.dids) c.tell.ensures ∙ ap (λ (ds : List Did). ds ++ did.Prepared channel d.unit ∷ []) (c.reserve.ensures.dids ∙ ap (λ (k : CoreValue). k.delta) v) in
    let new : ManagerValue = record { plain = plain_of c.drop_batch.new.parts; delta = c.tell.new.self.dids; stopped = c.core.inside.stopped; faults = c.drop_batch.new.parts.log.faults } in
    let nothing : Unit {0} = tt in
    subst (λ (s : Step PrepareFault (Unit {0})). MeetsOrWants (manager_of c.args.core.now) s (Ok nothing) new) (sym step)
    (wrote_as PrepareFault Anywhere (manager_of c.args.core.now) new nothing nothing r (doubt_changes channel d old) (did.Prepared channel d.unit ∷ []) refl done told (ap (λ (k : CoreValue). k.stopped) v)
    (omega (arith, had, failed, w.log.later))
    (λ some. let here : 0 < y.log.armed = omega (arith, before, some) in let more = w.log.calls.1 here in omega (arith, before, more)))

pub returns-in-Err-write_doubt-clause-told : goal.returns-in-Err-write_doubt-clause-told
returns-in-Err-write_doubt-clause-told g c =
    let v = c.core.view_is ∙ c.begin_call.ensures in
    let plain = ap (λ (w : CoreValue). w.plain) v in
    let p : Plain = c.args.core.now.plain in
    let x : PartsValue = c.core.inside.parts in
    let channel = c.args.channel.now in
    let last = c.args.last in
    let d : InDoubt = c.args.doubt in
    let r : LogRecord = doubt_record channel d in
    let y : PartsValue = c.fill_prepared.new.parts in
    let z : PartsValue = c.write_doubt.new.parts in
    let fl = c.in-Ok-fill_prepared.ensures.ok in
    let first : PartsValue = c.aside_for_doubt.new.parts in
    let more = more_trans x first y c.aside_for_doubt.ensures.more (roomy_more (need r) first y fl.roomy) in
    let size : IsWhole y.body.bytes r = (ap length fl.bytes ∙ fl.size, fl.fits) in
    let old = c.in-Ok-sender_now.old in
    let side : SenderSide = c.in-Ok-kept_sender.kept in
    let e : ChannelEnds = with_senders (set_sender side y.ends.senders) y.ends in
    let here : IsDoubtOf d last (batch_of channel (plain_of x).channels.batches) = subst (λ (q : Plain). IsDoubtOf d last (batch_of channel q.channels.batches)) (sym plain) c.requires.batch in
    let fits : is_full (need r) (plain_of x) ≡ false = ap (is_full (need r)) plain ∙ c.requires.fits in
    let was : sender_or (sender_data channel (plain_of x)) ≡ old = sym c.in-Ok-sender_now.ensures in
    let step : prepare channel last p ≡ Do tt (doubt_part channel d old ∷ []) = ap (prepare channel last) (sym plain) ∙ prepares_as d channel last (plain_of x) here fits ∙ ap (λ (s : SenderData). Do tt (doubt_part channel d s ∷ [])) was in
    let note = doubt_noted d channel last x here ∙ ap (λ (s : SenderData). Some (let n : Noted = record { written = r; changes = doubt_changes channel d s; delta = did.Prepared channel d.unit ∷ [] } in n)) was in
    let nothing : Unit {0} = tt in
    writes_as c.args.core.now _ (prepare channel last p) (Do tt (doubt_part channel d old ∷ [])) (Err (halt_of {F = PrepareFault} c.agent_of-agent.result)) step
    (unwritten_told PrepareFault c.in-Err-write_doubt.unwritten c.args.core.now _ x y z (writes.Prepared channel last) r (doubt_changes channel d old) (did.Prepared channel d.unit ∷ []) nothing y.body.bytes e
    c.agent_of-agent.result c.agent_of-agent.ensures (mode_up (frozen_of x) x.mode (ap (λ (k : CoreValue). is_up k.plain.running) v ∙ c.requires.up)) (more_aside x y more) fl.bytes size c.in-Err-write_doubt.ensures note plain (ap (λ (w : CoreValue). w.log) v) refl refl)

pub returns-clause-told : goal.returns-clause-told
returns-clause-told g c =
    let v = c.core.view_is ∙ c.begin_call.ensures in
    let plain = ap (λ (w : CoreValue). w.plain) v in
    let p : Plain = c.args.core.now.plain in
    let x : PartsValue = c.core.inside.parts in
    let channel = c.args.channel.now in
    let last = c.args.last in
    let d : InDoubt = c.args.doubt in
    let r : LogRecord = doubt_record channel d in
    let y : PartsValue = c.fill_prepared.new.parts in
    let z : PartsValue = c.write_doubt.new.parts in
    let fl = c.in-Ok-fill_prepared.ensures.ok in
    let first : PartsValue = c.aside_for_doubt.new.parts in
    let more = more_trans x first y c.aside_for_doubt.ensures.more (roomy_more (need r) first y fl.roomy) in
    let size : IsWhole y.body.bytes r = (ap length fl.bytes ∙ fl.size, fl.fits) in
    let old = c.in-Ok-sender_now.old in
    let side : SenderSide = c.in-Ok-kept_sender.kept in
    let e : ChannelEnds = with_senders (set_sender side y.ends.senders) y.ends in
    let here : IsDoubtOf d last (batch_of channel (plain_of x).channels.batches) = subst (λ (q : Plain). IsDoubtOf d last (batch_of channel q.channels.batches)) (sym plain) c.requires.batch in
    let fits : is_full (need r) (plain_of x) ≡ false = ap (is_full (need r)) plain ∙ c.requires.fits in
    let was : sender_or (sender_data channel (plain_of x)) ≡ old = sym c.in-Ok-sender_now.ensures in
    let step : prepare channel last p ≡ Do tt (doubt_part channel d old ∷ []) = ap (prepare channel last) (sym plain) ∙ prepares_as d channel last (plain_of x) here fits ∙ ap (λ (s : SenderData). Do tt (doubt_part channel d s ∷ [])) was in
    writes_as c.args.core.now _ (prepare channel last p) (Do tt (doubt_part channel d old ∷ [])) (Ok tt) step
    (ap (λ (q : PartsValue). bodies_in q.log) c.drop_batch.ensures ∙ hardened_bodies r y.body.bytes e y z fl.bytes c.in-Ok-write_doubt.ensures ∙ ap (behind_record (Some r)) (roomier_bodies x y more ∙ ap (λ (w : CoreValue). w.log) v), (fl.fits, tt))

-- there was no memory
pub invariant_of-core-in-Err-aside_for_doubt : goal.invariant_of-core-in-Err-aside_for_doubt
invariant_of-core-in-Err-aside_for_doubt g c =
    let x : PartsValue = c.core.inside.parts in
    let first : PartsValue = c.aside_for_doubt.new.parts in
    let y : PartsValue = first in
    tied_roomier x y (c.aside_for_doubt.ensures.more) c.core.invariant

pub returns-in-Err-aside_for_doubt-clause-meets : goal.returns-in-Err-aside_for_doubt-clause-meets
returns-in-Err-aside_for_doubt-clause-meets g c =
    let v = c.core.view_is ∙ c.begin_call.ensures in
    let x : PartsValue = c.core.inside.parts in
    let first : PartsValue = c.aside_for_doubt.new.parts in
    let y : PartsValue = first in
    wanted_meets (manager_of c.args.core.now) x y c.reserve.new.self.dids c.core.inside.stopped (prepare c.args.channel.now c.args.last c.args.core.now.plain) (c.aside_for_doubt.ensures.more)
    (ap (λ (w : CoreValue). w.plain) v) (ap (λ (w : CoreValue). w.faults) v) (c.reserve.ensures.dids ∙ ap (λ (w : CoreValue). w.delta) v) (ap (λ (w : CoreValue). w.stopped) v)

pub returns-in-Err-aside_for_doubt-clause-told : goal.returns-in-Err-aside_for_doubt-clause-told
returns-in-Err-aside_for_doubt-clause-told g c =
    let v = c.core.view_is ∙ c.begin_call.ensures in
    let x : PartsValue = c.core.inside.parts in
    let first : PartsValue = c.aside_for_doubt.new.parts in
    let y : PartsValue = first in
    wanted_told c.args.core.now _ x y (prepare c.args.channel.now c.args.last c.args.core.now.plain) (c.aside_for_doubt.ensures.more) (ap (λ (w : CoreValue). w.log) v) refl

pub invariant_of-core-in-Err-fill_prepared : goal.invariant_of-core-in-Err-fill_prepared
invariant_of-core-in-Err-fill_prepared g c =
    let x : PartsValue = c.core.inside.parts in
    let first : PartsValue = c.aside_for_doubt.new.parts in
    let y : PartsValue = c.fill_prepared.new.parts in
    tied_roomier x y (more_trans x first y c.aside_for_doubt.ensures.more c.in-Err-fill_prepared.ensures.err) c.core.invariant

pub returns-in-Err-fill_prepared-clause-meets : goal.returns-in-Err-fill_prepared-clause-meets
returns-in-Err-fill_prepared-clause-meets g c =
    let v = c.core.view_is ∙ c.begin_call.ensures in
    let x : PartsValue = c.core.inside.parts in
    let first : PartsValue = c.aside_for_doubt.new.parts in
    let y : PartsValue = c.fill_prepared.new.parts in
    wanted_meets (manager_of c.args.core.now) x y c.reserve.new.self.dids c.core.inside.stopped (prepare c.args.channel.now c.args.last c.args.core.now.plain) (more_trans x first y c.aside_for_doubt.ensures.more c.in-Err-fill_prepared.ensures.err)
    (ap (λ (w : CoreValue). w.plain) v) (ap (λ (w : CoreValue). w.faults) v) (c.reserve.ensures.dids ∙ ap (λ (w : CoreValue). w.delta) v) (ap (λ (w : CoreValue). w.stopped) v)

pub returns-in-Err-fill_prepared-clause-told : goal.returns-in-Err-fill_prepared-clause-told
returns-in-Err-fill_prepared-clause-told g c =
    let v = c.core.view_is ∙ c.begin_call.ensures in
    let x : PartsValue = c.core.inside.parts in
    let first : PartsValue = c.aside_for_doubt.new.parts in
    let y : PartsValue = c.fill_prepared.new.parts in
    wanted_told c.args.core.now _ x y (prepare c.args.channel.now c.args.last c.args.core.now.plain) (more_trans x first y c.aside_for_doubt.ensures.more c.in-Err-fill_prepared.ensures.err) (ap (λ (w : CoreValue). w.log) v) refl

pub invariant_of-core-in-Err-kept_sender : goal.invariant_of-core-in-Err-kept_sender
invariant_of-core-in-Err-kept_sender g c =
    let x : PartsValue = c.core.inside.parts in
    let first : PartsValue = c.aside_for_doubt.new.parts in
    let y : PartsValue = c.fill_prepared.new.parts in
    tied_roomier x y (more_trans x first y c.aside_for_doubt.ensures.more (roomy_more (need (doubt_record c.args.channel.now c.args.doubt)) first y c.in-Ok-fill_prepared.ensures.ok.roomy)) c.core.invariant

pub returns-in-Err-kept_sender-clause-meets : goal.returns-in-Err-kept_sender-clause-meets
returns-in-Err-kept_sender-clause-meets g c =
    let v = c.core.view_is ∙ c.begin_call.ensures in
    let x : PartsValue = c.core.inside.parts in
    let first : PartsValue = c.aside_for_doubt.new.parts in
    let y : PartsValue = c.fill_prepared.new.parts in
    wanted_meets (manager_of c.args.core.now) x y c.reserve.new.self.dids c.core.inside.stopped (prepare c.args.channel.now c.args.last c.args.core.now.plain) (more_trans x first y c.aside_for_doubt.ensures.more (roomy_more (need (doubt_record c.args.channel.now c.args.doubt)) first y c.in-Ok-fill_prepared.ensures.ok.roomy))
    (ap (λ (w : CoreValue). w.plain) v) (ap (λ (w : CoreValue). w.faults) v) (c.reserve.ensures.dids ∙ ap (λ (w : CoreValue). w.delta) v) (ap (λ (w : CoreValue). w.stopped) v)

pub returns-in-Err-kept_sender-clause-told : goal.returns-in-Err-kept_sender-clause-told
returns-in-Err-kept_sender-clause-told g c =
    let v = c.core.view_is ∙ c.begin_call.ensures in
    let x : PartsValue = c.core.inside.parts in
    let first : PartsValue = c.aside_for_doubt.new.parts in
    let y : PartsValue = c.fill_prepared.new.parts in
    wanted_told c.args.core.now _ x y (prepare c.args.channel.now c.args.last c.args.core.now.plain) (more_trans x first y c.aside_for_doubt.ensures.more (roomy_more (need (doubt_record c.args.channel.now c.args.doubt)) first y c.in-Ok-fill_prepared.ensures.ok.roomy)) (ap (λ (w : CoreValue). w.log) v) refl

-- the record can be written
pub write_doubt-requires-clause-live : goal.write_doubt-requires-clause-live
write_doubt-requires-clause-live g c =
    let plain = ap (λ (w : CoreValue). w.plain) (c.core.view_is ∙ c.begin_call.ensures) in
    let x : PartsValue = c.core.inside.parts in
    let first : PartsValue = c.aside_for_doubt.new.parts in
    let y : PartsValue = c.fill_prepared.new.parts in
    let more = more_trans x first y c.aside_for_doubt.ensures.more (roomy_more (need (doubt_record c.args.channel.now c.args.doubt)) first y c.in-Ok-fill_prepared.ensures.ok.roomy) in
    ap (λ (p : PartsValue). p.log.live) more.same ∙ (c.core.invariant.up (mode_up (frozen_of x) x.mode (ap (λ (p : Plain). is_up p.running) plain ∙ c.requires.up))).live

pub write_doubt-requires-clause-small : goal.write_doubt-requires-clause-small
write_doubt-requires-clause-small g c =
    let fl = c.in-Ok-fill_prepared.ensures.ok in
    let long = ap length fl.bytes in
    omega (arith, long, fl.size, c.requires.few)
