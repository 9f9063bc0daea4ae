use Rattle.std.proofs.Common.{◌≡◌, ℕ, ◌+◌, ◌<◌, ◌∙◌, true, sym, ap, subst, refl, arith}
use Rattle.std.specs.Prelude.{List, Option, [], ◌∷◌, ◌++◌, length, Some, None, find}
use Rattle.std.specs.Str.{bytes_eq}
use Rattle.mq_calls.specs.Words.{Plain, is_up, set_receiver, receiver_in, receiver_data}
use Rattle.mq_calls.specs.declared.deltas.Did.{Did}
use Rattle.mq_calls.specs.State.Change.{SetReceiver}
use Rattle.mq_calls.specs.declared.state.ReceiverSide.{ReceiverSide}
use Rattle.mq_calls.specs.declared.deltas.Did.TheVariants as did
use Rattle.mq_get.specs.from_unit.Told.{Telling}
use Rattle.mq_sides.specs.Places.{AreByName}
use Rattle.mq_core.specs.declared.parts.StoppedWrite.TheVariants as writes
use Rattle.mq_core.specs.Views.{PartsValue, frozen_of}
use Rattle.mq_core.specs.Ties.{EndsReady, mode_is_up}
use Rattle.mq_core.proofs.MeetLaws.{mode_up}
use Rattle.mq_agents.specs.Written.{IsAside, is_live, live_need, with_receivers, note_record, noted_receiver}
use Rattle.mq_agents.proofs.ReadyLaws.{closing_spare, live_found, live_seat, old_open, old_receiver, old_told, receiver_closed}
use Rattle.mq_agents.proofs.WriteLaws.{aside_bodies, aside_view, drawn_aside, hardened_tied, hardened_meets, hardening_ends, hardening_told, hardened_wrote, hardened_bodies, not_wanted, receiver_changed, receiver_hardened, tied_after, wants_none}
use Rattle.mq_core.specs.Values.{CoreValue, manager_of, behind_record}
use Rattle.mq_agents.proofs.hardening.close.Goals as goal

pub draw-requires : goal.draw-requires
draw-requires g c =
    let plain = ap (λ (w : CoreValue). w.plain) (c.core.view_is ∙ c.begin_call.ensures) in
    let x : PartsValue = c.core.inside.parts in
    let side = noted_receiver c.args.channel.now c.args.note.now c.args.core.now.plain in
    let up = mode_up (frozen_of x) x.mode (ap (λ (p : Plain). is_up p.running) plain ∙ c.requires.up) in
    let w = (c.core.invariant.up up).ends in
    let live : is_live (receiver_in side.channel x.ends.receivers) ≡ true = ap (λ (p : Plain). is_live (receiver_data c.args.channel.now p)) plain ∙ c.requires.live in
    let had = old_open side.channel x.ends w.receivers live in
    closing_spare side x.ends x.log.spare w c.requires.closed (omega (arith, had))

pub of_closed-kept-requires : goal.of_closed-kept-requires
of_closed-kept-requires g c =
    let plain = ap (λ (w : CoreValue). w.plain) (c.core.view_is ∙ c.begin_call.ensures) in
    ap (λ (k : ReceiverSide). k.hardened.closed) (c.noted_receiver-side.ensures ∙ ap (noted_receiver c.args.channel.now c.args.note.now) plain) ∙ c.requires.closed

pub write_receiver-requires-clause-live : goal.write_receiver-requires-clause-live
write_receiver-requires-clause-live g c =
    let plain = ap (λ (w : CoreValue). w.plain) (c.core.view_is ∙ c.begin_call.ensures) in
    let x : PartsValue = c.core.inside.parts in
    ap (λ (p : PartsValue). p.log.live) c.draw.ensures ∙ (c.core.invariant.up (mode_up (frozen_of x) x.mode (ap (λ (p : Plain). is_up p.running) plain ∙ c.requires.up))).live

pub write_receiver-requires-clause-small : goal.write_receiver-requires-clause-small
write_receiver-requires-clause-small g c = omega (arith, c.requires.small)

pub write_receiver-requires-clause-ends : goal.write_receiver-requires-clause-ends
write_receiver-requires-clause-ends g c =
    let plain = ap (λ (w : CoreValue). w.plain) (c.core.view_is ∙ c.begin_call.ensures) in
    let x : PartsValue = c.core.inside.parts in
    let side : ReceiverSide = c.of_closed-kept.result in
    let is = c.of_closed-kept.ensures ∙ c.noted_receiver-side.ensures ∙ ap (noted_receiver c.args.channel.now c.args.note.now) plain in
    let up = mode_up (frozen_of x) x.mode (ap (λ (p : Plain). is_up p.running) plain ∙ c.requires.up) in
    let w = (c.core.invariant.up up).ends in
    let named = ap (λ (k : ReceiverSide). k.channel) is in
    let live : is_live (receiver_in side.channel x.ends.receivers) ≡ true = ap (λ (n : List ℕ). is_live (receiver_in n x.ends.receivers)) named ∙ ap (λ (p : Plain). is_live (receiver_data c.args.channel.now p)) plain ∙ c.requires.live in
    let had = old_open side.channel x.ends w.receivers live in
    subst (λ (q : PartsValue). EndsReady (with_receivers (set_receiver side q.ends.receivers) q.ends) q.log.spare) (sym c.draw.ensures)
    (receiver_closed side x.ends x.log.spare w (live_seat side.channel x.ends x.log.spare w live) (ap (λ (k : ReceiverSide). k.hardened.closed) is ∙ c.requires.closed) (omega (arith, had)))

pub invariant_of-core : goal.invariant_of-core
invariant_of-core g c =
    let v = c.core.view_is ∙ c.begin_call.ensures in
    let plain = ap (λ (w : CoreValue). w.plain) v in
    let x : PartsValue = c.core.inside.parts in
    let y : PartsValue = c.draw.new.parts in
    let z : PartsValue = c.write_receiver.new.parts in
    let channel = c.args.channel.now in
    let note = c.args.note.now in
    let bytes = c.args.bytes.now in
    let side : ReceiverSide = c.of_closed-kept.result in
    let is = c.of_closed-kept.ensures ∙ c.noted_receiver-side.ensures ∙ ap (noted_receiver c.args.channel.now c.args.note.now) plain in
    let up = mode_up (frozen_of x) x.mode (ap (λ (p : Plain). is_up p.running) plain ∙ c.requires.up) in
    let w = (c.core.invariant.up up).ends in
    let named = ap (λ (k : ReceiverSide). k.channel) is in
    let live : is_live (receiver_in side.channel x.ends.receivers) ≡ true = ap (λ (n : List ℕ). is_live (receiver_in n x.ends.receivers)) named ∙ ap (λ (p : Plain). is_live (receiver_data channel p)) plain ∙ c.requires.live in
    let e = with_receivers (set_receiver side y.ends.receivers) y.ends in
    let m = subst (IsAside x) (sym c.draw.ensures) (drawn_aside 34 x) in
    let room = ap (λ (q : PartsValue). q.log.room) c.draw.ensures in
    let held = ap (λ (q : PartsValue). q.log.reserved) c.draw.ensures in
    let enough = (c.core.invariant.up up).room in
    let ends = ap (λ (q : PartsValue). q.ends.receivers) c.draw.ensures in
    let some = not_wanted (Option ReceiverSide) (AreByName (λ (r : ReceiverSide). r.channel) y.ends.receivers → find (λ (r : ReceiverSide). bytes_eq side.channel r.channel) y.ends.receivers ≡ None) (5 + length bytes) y.log c.in-Err.unwritten
    c.in-Err.ensures.lacks (omega (arith, room, held, enough, c.requires.small))
    (λ none. live_found side.channel y.ends.receivers (ap (λ (rs : List ReceiverSide). is_live (receiver_in side.channel rs)) ends ∙ live) (none (subst (λ (rs : List ReceiverSide). AreByName (λ (r : ReceiverSide). r.channel) rs) (sym ends) w.receivers))) in
    tied_after c.in-Err.unwritten x y z (writes.Hardened channel note) (note_record channel note) bytes e m (λ k. absurd (some k)) c.requires.bytes c.requires.size c.in-Err.ensures.written c.core.invariant

pub returns-in-Err-clause-wants : goal.returns-in-Err-clause-wants
returns-in-Err-clause-wants g c =
    let v = c.core.view_is ∙ c.begin_call.ensures in
    let plain = ap (λ (w : CoreValue). w.plain) v in
    let x : PartsValue = c.core.inside.parts in
    let y : PartsValue = c.draw.new.parts in
    let channel = c.args.channel.now in
    let bytes = c.args.bytes.now in
    let side : ReceiverSide = c.of_closed-kept.result in
    let is = c.of_closed-kept.ensures ∙ c.noted_receiver-side.ensures ∙ ap (noted_receiver c.args.channel.now c.args.note.now) plain in
    let up = mode_up (frozen_of x) x.mode (ap (λ (p : Plain). is_up p.running) plain ∙ c.requires.up) in
    let w = (c.core.invariant.up up).ends in
    let named = ap (λ (k : ReceiverSide). k.channel) is in
    let live : is_live (receiver_in side.channel x.ends.receivers) ≡ true = ap (λ (n : List ℕ). is_live (receiver_in n x.ends.receivers)) named ∙ ap (λ (p : Plain). is_live (receiver_data channel p)) plain ∙ c.requires.live in
    let room = ap (λ (q : PartsValue). q.log.room) c.draw.ensures in
    let held = ap (λ (q : PartsValue). q.log.reserved) c.draw.ensures in
    let enough = (c.core.invariant.up up).room in
    let ends = ap (λ (q : PartsValue). q.ends.receivers) c.draw.ensures in
    let some = not_wanted (Option ReceiverSide) (AreByName (λ (r : ReceiverSide). r.channel) y.ends.receivers → find (λ (r : ReceiverSide). bytes_eq side.channel r.channel) y.ends.receivers ≡ None) (5 + length bytes) y.log c.in-Err.unwritten
    c.in-Err.ensures.lacks (omega (arith, room, held, enough, c.requires.small))
    (λ none. live_found side.channel y.ends.receivers (ap (λ (rs : List ReceiverSide). is_live (receiver_in side.channel rs)) ends ∙ live) (none (subst (λ (rs : List ReceiverSide). AreByName (λ (r : ReceiverSide). r.channel) rs) (sym ends) w.receivers))) in
    wants_none c.in-Err.unwritten c.agent_of-agent.result c.agent_of-agent.ensures some

pub returns-in-Err-clause-meets : goal.returns-in-Err-clause-meets
returns-in-Err-clause-meets g c =
    let v = c.core.view_is ∙ c.begin_call.ensures in
    let plain = ap (λ (w : CoreValue). w.plain) v in
    let x : PartsValue = c.core.inside.parts in
    let y : PartsValue = c.draw.new.parts in
    let z : PartsValue = c.write_receiver.new.parts in
    let channel = c.args.channel.now in
    let note = c.args.note.now in
    let bytes = c.args.bytes.now in
    let side : ReceiverSide = c.of_closed-kept.result in
    let is = c.of_closed-kept.ensures ∙ c.noted_receiver-side.ensures ∙ ap (noted_receiver c.args.channel.now c.args.note.now) plain in
    let part = receiver_changed channel note side c.args.core.now.plain c.requires.receiver is in
    let up = mode_up (frozen_of x) x.mode (ap (λ (p : Plain). is_up p.running) plain ∙ c.requires.up) in
    let e = with_receivers (set_receiver side y.ends.receivers) y.ends in
    let m = subst (IsAside x) (sym c.draw.ensures) (drawn_aside 34 x) in
    hardening_ends c.in-Err.unwritten (manager_of c.args.core.now) x y z c.core.inside.effects.dids channel note (SetReceiver channel side.hardened) bytes e c.agent_of-agent.result c.stop_of-stopped.result
    c.agent_of-agent.ensures c.stop_of-stopped.ensures up m c.requires.bytes c.requires.size c.in-Err.ensures.written plain part (ap (λ (k : CoreValue). k.faults) v) (ap (λ (k : CoreValue). k.delta) v)

pub returns-in-Err-clause-told : goal.returns-in-Err-clause-told
returns-in-Err-clause-told g c =
    let v = c.core.view_is ∙ c.begin_call.ensures in
    let plain = ap (λ (w : CoreValue). w.plain) v in
    let x : PartsValue = c.core.inside.parts in
    let y : PartsValue = c.draw.new.parts in
    let z : PartsValue = c.write_receiver.new.parts in
    let channel = c.args.channel.now in
    let note = c.args.note.now in
    let bytes = c.args.bytes.now in
    let side : ReceiverSide = c.of_closed-kept.result in
    let is = c.of_closed-kept.ensures ∙ c.noted_receiver-side.ensures ∙ ap (noted_receiver c.args.channel.now c.args.note.now) plain in
    let part = receiver_changed channel note side c.args.core.now.plain c.requires.receiver is in
    let up = mode_up (frozen_of x) x.mode (ap (λ (p : Plain). is_up p.running) plain ∙ c.requires.up) in
    let e = with_receivers (set_receiver side y.ends.receivers) y.ends in
    let m = subst (IsAside x) (sym c.draw.ensures) (drawn_aside 34 x) in
    hardening_told c.in-Err.unwritten c.args.core.now _ x y z channel note (SetReceiver channel side.hardened) bytes e c.agent_of-agent.result
    c.agent_of-agent.ensures up m c.requires.bytes c.requires.size c.in-Err.ensures.written part plain (ap (λ (k : CoreValue). k.log) v) refl refl

pub tell-requires : goal.tell-requires
tell-requires g c =
    let v = c.core.view_is ∙ c.begin_call.ensures in
    let plain = ap (λ (w : CoreValue). w.plain) v in
    let x : PartsValue = c.core.inside.parts in
    let channel = c.args.channel.now in
    let side : ReceiverSide = c.of_closed-kept.result in
    let is = c.of_closed-kept.ensures ∙ c.noted_receiver-side.ensures ∙ ap (noted_receiver c.args.channel.now c.args.note.now) plain in
    let up = mode_up (frozen_of x) x.mode (ap (λ (p : Plain). is_up p.running) plain ∙ c.requires.up) in
    let w = (c.core.invariant.up up).ends in
    let named = ap (λ (k : ReceiverSide). k.channel) is in
    let live : is_live (receiver_in side.channel x.ends.receivers) ≡ true = ap (λ (n : List ℕ). is_live (receiver_in n x.ends.receivers)) named ∙ ap (λ (p : Plain). is_live (receiver_data channel p)) plain ∙ c.requires.live in
    let before = ap live_need c.in-Ok.ensures.written.0 in
    let ends = ap (λ (q : PartsValue). live_need (old_receiver side.channel q.ends)) c.draw.ensures in
    let one = old_told side.channel x.ends w.receivers live in
    let room = c.room_of.ensures.room in
    omega (arith, before, ends, one, room)

pub invariant_of-core-2 : goal.invariant_of-core-2
invariant_of-core-2 g c =
    let x : PartsValue = c.core.inside.parts in
    let y : PartsValue = c.draw.new.parts in
    let z : PartsValue = c.write_receiver.new.parts in
    let bytes = c.args.bytes.now in
    let side : ReceiverSide = c.of_closed-kept.result in
    let e = with_receivers (set_receiver side y.ends.receivers) y.ends in
    let m = subst (IsAside x) (sym c.draw.ensures) (drawn_aside 34 x) in
    hardened_tied bytes e x y z m c.in-Ok.ensures.written.1 c.core.invariant

pub returns-clause-meets : goal.returns-clause-meets
returns-clause-meets g c =
    let v = c.core.view_is ∙ c.begin_call.ensures in
    let plain = ap (λ (w : CoreValue). w.plain) v in
    let x : PartsValue = c.core.inside.parts in
    let y : PartsValue = c.draw.new.parts in
    let z : PartsValue = c.write_receiver.new.parts in
    let channel = c.args.channel.now in
    let note = c.args.note.now in
    let bytes = c.args.bytes.now in
    let side : ReceiverSide = c.of_closed-kept.result in
    let is = c.of_closed-kept.ensures ∙ c.noted_receiver-side.ensures ∙ ap (noted_receiver c.args.channel.now c.args.note.now) plain in
    let part = receiver_changed channel note side c.args.core.now.plain c.requires.receiver is in
    let up = mode_up (frozen_of x) x.mode (ap (λ (p : Plain). is_up p.running) plain ∙ c.requires.up) in
    let named = ap (λ (k : ReceiverSide). k.channel) is in
    let m = subst (IsAside x) (sym c.draw.ensures) (drawn_aside 34 x) in
    let k = c.in-Ok.ensures.written.1 in
    let armed : y.log.armed ≡ c.args.core.now.plain.log.armed = ap (λ (q : PartsValue). q.log.armed) m.same ∙ ap (λ (p : Plain). p.log.armed) plain in
    let faults : y.log.faults ≡ c.args.core.now.faults = ap (λ (q : PartsValue). q.log.faults) m.same ∙ ap (λ (q : CoreValue). q.faults) v in
    let still : mode_is_up y.mode ≡ true = ap (λ (q : PartsValue). mode_is_up q.mode) m.same ∙ up in
    hardened_meets (manager_of c.args.core.now) _ channel note (SetReceiver channel side.hardened) part
    (receiver_hardened (note_record channel note) bytes side channel y z c.args.core.now.plain still c.requires.bytes c.requires.size k named (aside_view x y m ∙ plain))
    (ap (λ (t : Telling). t.dids) c.tell.ensures ∙ ap (λ (ds : List Did). ds ++ did.Hardened channel note ∷ []) c.room_of.ensures.told)
    (ap (λ (q : CoreValue). q.stopped) v)
    (omega (arith, faults, k.log.later))
    (λ some. let here : 0 < y.log.armed = omega (arith, armed, some) in let more = k.log.calls.1 here in omega (arith, armed, more))

pub returns-clause-told : goal.returns-clause-told
returns-clause-told g c =
    let v = c.core.view_is ∙ c.begin_call.ensures in
    let plain = ap (λ (w : CoreValue). w.plain) v in
    let x : PartsValue = c.core.inside.parts in
    let y : PartsValue = c.draw.new.parts in
    let z : PartsValue = c.write_receiver.new.parts in
    let channel = c.args.channel.now in
    let note = c.args.note.now in
    let bytes = c.args.bytes.now in
    let side : ReceiverSide = c.of_closed-kept.result in
    let is = c.of_closed-kept.ensures ∙ c.noted_receiver-side.ensures ∙ ap (noted_receiver c.args.channel.now c.args.note.now) plain in
    let part = receiver_changed channel note side c.args.core.now.plain c.requires.receiver is in
    let e = with_receivers (set_receiver side y.ends.receivers) y.ends in
    let m = subst (IsAside x) (sym c.draw.ensures) (drawn_aside 34 x) in
    let r = note_record channel note in
    hardened_wrote channel note (SetReceiver channel side.hardened) c.args.core.now.plain c.args.core.now.log _ part c.requires.size.1
    (hardened_bodies r bytes e y z c.requires.bytes c.in-Ok.ensures.written.1 ∙ ap (behind_record (Some r)) (aside_bodies x y m ∙ ap (λ (k : CoreValue). k.log) v))
