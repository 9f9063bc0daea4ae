use Rattle.std.proofs.Common.{◌≡◌, ◌<◌, ◌∙◌, true, ap, refl, arith}
use Rattle.std.specs.Prelude.{List, [], ◌∷◌, ◌++◌, Some}
use Rattle.mq_calls.specs.Words.{Plain, is_up, set_receiver}
use Rattle.mq_calls.specs.declared.deltas.Did.{Did}
use Rattle.mq_calls.specs.State.Change.{SetReceiver}
use Rattle.mq_calls.specs.declared.deltas.Did.TheVariants as did
use Rattle.mq_get.specs.from_unit.Told.{Telling}
use Rattle.mq_core.specs.Views.{PartsValue, frozen_of}
use Rattle.mq_core.proofs.MeetLaws.{mode_up}
use Rattle.mq_spec_manager.specs.Agents.{harden}
use Rattle.mq_agents.specs.Written.{with_receivers, note_record, noted_receiver}
use Rattle.mq_agents.proofs.WriteLaws.{wanted_meets, hardened_tied, hardened_meets, hardening_ends, hardening_told, hardened_wrote, hardened_bodies, more_aside, receiver_changed, receiver_hardened, tied_after}
use Rattle.mq_core.specs.Values.{CoreValue, manager_of, behind_record}
use Rattle.mq_calls.specs.declared.state.ReceiverSide.{ReceiverSide}
use Rattle.mq_core.specs.declared.parts.StoppedWrite.TheVariants as writes
use Rattle.mq_core.specs.Ties.{mode_is_up}
use Rattle.mq_core.proofs.PutLaws.{tied_roomier, roomier_view}
use Rattle.mq_core.proofs.WriteLaws.{roomier_bodies}
use Rattle.mq_agents.proofs.hardening.harden_receiver.Goals as goal

pub write_receiver-requires-clause-live : goal.write_receiver-requires-clause-live
write_receiver-requires-clause-live g c =
    let v = c.core.view_is ∙ c.begin_call.ensures in
    let plain = ap (λ (w : CoreValue). w.plain) v in
    let x : PartsValue = c.core.inside.parts in
    let more = c.aside_for.ensures.more in
    ap (λ (p : PartsValue). p.log.live) more.same ∙ (c.core.invariant.up (mode_up (frozen_of x) x.mode (ap (λ (p : Plain). is_up p.running) plain ∙ c.requires.up))).live

pub write_receiver-requires-clause-ends : goal.write_receiver-requires-clause-ends
write_receiver-requires-clause-ends g c =
    let plain = ap (λ (w : CoreValue). w.plain) (c.core.view_is ∙ c.begin_call.ensures) in
    let x : PartsValue = c.core.inside.parts in
    let is = c.in-Ok-kept_receiver.ensures ∙ c.noted_receiver-side.ensures ∙ ap (noted_receiver c.args.channel.now c.args.note.now) plain in
    let up = mode_up (frozen_of x) x.mode (ap (λ (p : Plain). is_up p.running) plain ∙ c.requires.up) in
    c.in-Ok-aside_for.ensures.ready (c.core.invariant.up up).ends c.in-Ok-kept_receiver.kept (ap (λ (k : ReceiverSide). k.channel) is) (ap (λ (k : ReceiverSide). k.hardened.closed) c.in-Ok-kept_receiver.ensures)

pub invariant_of-core-in-Err-write_receiver : goal.invariant_of-core-in-Err-write_receiver
invariant_of-core-in-Err-write_receiver g c =
    let x : PartsValue = c.core.inside.parts in
    let channel = c.args.channel.now in
    let note = c.args.note.now in
    let bytes = c.args.bytes.now in
    let side = c.in-Ok-kept_receiver.kept in
    let y : PartsValue = c.aside_for.new.parts in
    let more = c.aside_for.ensures.more in
    tied_after c.in-Err-write_receiver.unwritten x y c.write_receiver.new.parts (writes.Hardened channel note) (note_record channel note) bytes (with_receivers (set_receiver side y.ends.receivers) y.ends) (more_aside x y more) (λ e. more) c.requires.bytes c.requires.size c.in-Err-write_receiver.ensures.written c.core.invariant

pub returns-in-Err-write_receiver-clause-meets : goal.returns-in-Err-write_receiver-clause-meets
returns-in-Err-write_receiver-clause-meets g c =
    let v = c.core.view_is ∙ c.begin_call.ensures in
    let plain = ap (λ (w : CoreValue). w.plain) v in
    let x : PartsValue = c.core.inside.parts in
    let channel = c.args.channel.now in
    let note = c.args.note.now in
    let bytes = c.args.bytes.now in
    let side = c.in-Ok-kept_receiver.kept in
    let is = c.in-Ok-kept_receiver.ensures ∙ c.noted_receiver-side.ensures ∙ ap (noted_receiver c.args.channel.now c.args.note.now) plain in
    let part = receiver_changed c.args.channel.now c.args.note.now side c.args.core.now.plain c.requires.receiver is in
    let y : PartsValue = c.aside_for.new.parts in
    let more = c.aside_for.ensures.more in
    hardening_ends c.in-Err-write_receiver.unwritten (manager_of c.args.core.now) x y c.write_receiver.new.parts c.reserve.new.self.dids channel note (SetReceiver channel side.hardened) bytes (with_receivers (set_receiver side y.ends.receivers) y.ends) c.agent_of-agent.result c.stop_of-stopped.result
    c.agent_of-agent.ensures c.stop_of-stopped.ensures (mode_up (frozen_of x) x.mode (ap (λ (k : CoreValue). is_up k.plain.running) v ∙ c.requires.up)) (more_aside x y more) c.requires.bytes c.requires.size c.in-Err-write_receiver.ensures.written plain part
    (ap (λ (w : CoreValue). w.faults) v) (c.reserve.ensures.dids ∙ ap (λ (w : CoreValue). w.delta) v)

pub invariant_of-core-2 : goal.invariant_of-core-2
invariant_of-core-2 g c =
    let x : PartsValue = c.core.inside.parts in
    let bytes = c.args.bytes.now in
    let side = c.in-Ok-kept_receiver.kept in
    let y : PartsValue = c.aside_for.new.parts in
    let more = c.aside_for.ensures.more in
    hardened_tied bytes (with_receivers (set_receiver side y.ends.receivers) y.ends) x y c.write_receiver.new.parts (more_aside x y more) c.in-Ok-write_receiver.ensures.written.1 c.core.invariant

pub returns-clause-meets : goal.returns-clause-meets
returns-clause-meets g c =
    let v = c.core.view_is ∙ c.begin_call.ensures in
    let plain = ap (λ (w : CoreValue). w.plain) v in
    let x : PartsValue = c.core.inside.parts in
    let channel = c.args.channel.now in
    let note = c.args.note.now in
    let bytes = c.args.bytes.now in
    let side = c.in-Ok-kept_receiver.kept in
    let is = c.in-Ok-kept_receiver.ensures ∙ c.noted_receiver-side.ensures ∙ ap (noted_receiver c.args.channel.now c.args.note.now) plain in
    let part = receiver_changed c.args.channel.now c.args.note.now side c.args.core.now.plain c.requires.receiver is in
    let y : PartsValue = c.aside_for.new.parts in
    let more = c.aside_for.ensures.more in
    let up = mode_up (frozen_of x) x.mode (ap (λ (p : Plain). is_up p.running) plain ∙ c.requires.up) in
    let w = c.in-Ok-write_receiver.ensures.written.1 in
    let armed : y.log.armed ≡ c.args.core.now.plain.log.armed = ap (λ (p : PartsValue). p.log.armed) more.same ∙ ap (λ (p : Plain). p.log.armed) plain in
    let faults : y.log.faults ≡ c.args.core.now.faults = ap (λ (p : PartsValue). p.log.faults) more.same ∙ ap (λ (w : CoreValue). w.faults) v in
    let still : mode_is_up y.mode ≡ true = ap (λ (p : PartsValue). mode_is_up p.mode) more.same ∙ up in
    hardened_meets (manager_of c.args.core.now) _ channel note (SetReceiver channel side.hardened) part
    (receiver_hardened (note_record channel note) bytes side channel y c.write_receiver.new.parts c.args.core.now.plain still c.requires.bytes c.requires.size w (ap (λ (k : ReceiverSide). k.channel) is) (roomier_view x y more ∙ plain))
    (ap (λ (t : Telling). t.dids) c.tell.ensures ∙ ap (λ (ds : List Did). ds ++ did.Hardened channel note ∷ []) (c.reserve.ensures.dids ∙ ap (λ (w : CoreValue). w.delta) v))
    (ap (λ (w : CoreValue). w.stopped) v)
    (omega (arith, faults, w.log.later))
    (λ some. let here : 0 < y.log.armed = omega (arith, armed, some) in let more = w.log.calls.1 here in omega (arith, armed, more))

pub returns-in-Err-write_receiver-clause-told : goal.returns-in-Err-write_receiver-clause-told
returns-in-Err-write_receiver-clause-told g c =
    let v = c.core.view_is ∙ c.begin_call.ensures in
    let plain = ap (λ (w : CoreValue). w.plain) v in
    let x : PartsValue = c.core.inside.parts in
    let side = c.in-Ok-kept_receiver.kept in
    let is = c.in-Ok-kept_receiver.ensures ∙ c.noted_receiver-side.ensures ∙ ap (noted_receiver c.args.channel.now c.args.note.now) plain in
    let part = receiver_changed c.args.channel.now c.args.note.now side c.args.core.now.plain c.requires.receiver is in
    let y : PartsValue = c.aside_for.new.parts in
    let more = c.aside_for.ensures.more in
    hardening_told c.in-Err-write_receiver.unwritten c.args.core.now _ x y c.write_receiver.new.parts c.args.channel.now c.args.note.now (SetReceiver c.args.channel.now side.hardened) c.args.bytes.now (with_receivers (set_receiver side y.ends.receivers) y.ends) c.agent_of-agent.result
    c.agent_of-agent.ensures (mode_up (frozen_of x) x.mode (ap (λ (k : CoreValue). is_up k.plain.running) v ∙ c.requires.up)) (more_aside x y more) c.requires.bytes c.requires.size c.in-Err-write_receiver.ensures.written part (ap (λ (w : CoreValue). w.plain) v) (ap (λ (w : CoreValue). w.log) v) refl refl

pub returns-clause-told : goal.returns-clause-told
returns-clause-told g c =
    let plain = ap (λ (w : CoreValue). w.plain) (c.core.view_is ∙ c.begin_call.ensures) in
    let x : PartsValue = c.core.inside.parts in
    let side = c.in-Ok-kept_receiver.kept in
    let is = c.in-Ok-kept_receiver.ensures ∙ c.noted_receiver-side.ensures ∙ ap (noted_receiver c.args.channel.now c.args.note.now) plain in
    let part = receiver_changed c.args.channel.now c.args.note.now side c.args.core.now.plain c.requires.receiver is in
    let y : PartsValue = c.aside_for.new.parts in
    let more = c.aside_for.ensures.more in
    let r = note_record c.args.channel.now c.args.note.now in
    hardened_wrote c.args.channel.now c.args.note.now (SetReceiver c.args.channel.now side.hardened) c.args.core.now.plain c.args.core.now.log _ part c.requires.size.1
    (hardened_bodies r c.args.bytes.now (with_receivers (set_receiver side y.ends.receivers) y.ends) y c.write_receiver.new.parts c.requires.bytes c.in-Ok-write_receiver.ensures.written.1
    ∙ ap (behind_record (Some r)) (roomier_bodies x y more ∙ ap (λ (w : CoreValue). w.log) (c.core.view_is ∙ c.begin_call.ensures)))

-- no memory was set aside
pub invariant_of-core-in-Err-aside_for : goal.invariant_of-core-in-Err-aside_for
invariant_of-core-in-Err-aside_for g c = tied_roomier c.core.inside.parts c.aside_for.new.parts c.aside_for.ensures.more c.core.invariant

pub returns-in-Err-aside_for-clause-meets : goal.returns-in-Err-aside_for-clause-meets
returns-in-Err-aside_for-clause-meets g c =
    let v = c.core.view_is ∙ c.begin_call.ensures in
    wanted_meets (manager_of c.args.core.now) c.core.inside.parts c.aside_for.new.parts c.reserve.new.self.dids c.core.inside.stopped (harden c.args.channel.now c.args.note.now c.args.core.now.plain) c.aside_for.ensures.more
    (ap (λ (w : CoreValue). w.plain) v) (ap (λ (w : CoreValue). w.faults) v) (c.reserve.ensures.dids ∙ ap (λ (w : CoreValue). w.delta) v) (ap (λ (w : CoreValue). w.stopped) v)

pub returns-in-Err-aside_for-clause-told : goal.returns-in-Err-aside_for-clause-told
returns-in-Err-aside_for-clause-told g c = roomier_bodies c.core.inside.parts c.aside_for.new.parts c.aside_for.ensures.more ∙ ap (λ (w : CoreValue). w.log) (c.core.view_is ∙ c.begin_call.ensures)
