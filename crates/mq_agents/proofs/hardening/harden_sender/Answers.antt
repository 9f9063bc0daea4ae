use Rattle.std.proofs.Common.{◌≡◌, ◌<◌, ◌∙◌, sym, ap, refl, arith}
use Rattle.std.specs.Prelude.{List, [], ◌∷◌, ◌++◌, Some}
use Rattle.mq_calls.specs.Words.{Plain, is_up, set_sender}
use Rattle.mq_calls.specs.declared.deltas.Did.{Did}
use Rattle.mq_calls.specs.State.Change.{SetSender}
use Rattle.mq_calls.specs.declared.deltas.Did.TheVariants as did
use Rattle.mq_get.specs.from_unit.Told.{Telling}
use Rattle.mq_core.specs.Views.{PartsValue, frozen_of}
use Rattle.mq_core.proofs.MeetLaws.{mode_up}
use Rattle.mq_agents.specs.Written.{with_senders, note_record, noted_sender}
use Rattle.mq_agents.proofs.WriteLaws.{hardened_tied, hardened_meets, hardening_ends, hardening_told, hardened_wrote, hardened_bodies, noted_doubt, same_aside, sender_changed, sender_hardened, tied_after}
use Rattle.mq_core.specs.Values.{CoreValue, manager_of, behind_record}
use Rattle.mq_calls.specs.Words.{sender_or, sender_data}
use Rattle.mq_calls.specs.declared.state.SenderSide.{SenderSide}
use Rattle.mq_core.specs.declared.parts.StoppedWrite.TheVariants as writes
use Rattle.mq_get.proofs.PathLaws.{more_same}
use Rattle.mq_agents.proofs.ReadyLaws.{sender_kept}
use Rattle.mq_agents.proofs.hardening.harden_sender.Goals as goal

pub write_sender-requires-clause-live : goal.write_sender-requires-clause-live
write_sender-requires-clause-live g c =
    let v = c.core.view_is ∙ c.begin_call.ensures in
    let plain = ap (λ (w : CoreValue). w.plain) v in
    let x : PartsValue = c.core.inside.parts in
    (c.core.invariant.up (mode_up (frozen_of x) x.mode (ap (λ (p : Plain). is_up p.running) plain ∙ c.requires.up))).live

pub write_sender-requires-clause-ends : goal.write_sender-requires-clause-ends
write_sender-requires-clause-ends g c =
    let plain = ap (λ (w : CoreValue). w.plain) (c.core.view_is ∙ c.begin_call.ensures) in
    let x : PartsValue = c.core.inside.parts in
    let is = c.in-Ok-kept_sender.ensures ∙ c.in-Ok-noted_sender.ensures ∙ ap (noted_sender c.args.channel.now c.args.note.now) plain in
    let up = mode_up (frozen_of x) x.mode (ap (λ (p : Plain). is_up p.running) plain ∙ c.requires.up) in
    sender_kept c.in-Ok-kept_sender.kept c.args.channel.now x.ends x.log.spare (c.core.invariant.up up).ends (ap (λ (k : SenderSide). k.channel) is)
    (ap (λ (k : SenderSide). k.hardened.in_doubt) is ∙ noted_doubt c.args.channel.now c.args.note.now c.args.core.now.plain ∙ ap (λ (p : Plain). (sender_or (sender_data c.args.channel.now p)).in_doubt) (sym plain))

pub invariant_of-core-in-Err-write_sender : goal.invariant_of-core-in-Err-write_sender
invariant_of-core-in-Err-write_sender g c =
    let x : PartsValue = c.core.inside.parts in
    let channel = c.args.channel.now in
    let note = c.args.note.now in
    let bytes = c.args.bytes.now in
    let side = c.in-Ok-kept_sender.kept in
    tied_after c.in-Err-write_sender.unwritten x x c.write_sender.new.parts (writes.Hardened channel note) (note_record channel note) bytes (with_senders (set_sender side x.ends.senders) x.ends) (same_aside x) (λ e. more_same x) c.requires.bytes c.requires.size c.in-Err-write_sender.ensures c.core.invariant

pub returns-in-Err-write_sender-clause-meets : goal.returns-in-Err-write_sender-clause-meets
returns-in-Err-write_sender-clause-meets g c =
    let v = c.core.view_is ∙ c.begin_call.ensures in
    let plain = ap (λ (w : CoreValue). w.plain) v in
    let x : PartsValue = c.core.inside.parts in
    let channel = c.args.channel.now in
    let note = c.args.note.now in
    let bytes = c.args.bytes.now in
    let side = c.in-Ok-kept_sender.kept in
    let is = c.in-Ok-kept_sender.ensures ∙ c.in-Ok-noted_sender.ensures ∙ ap (noted_sender c.args.channel.now c.args.note.now) plain in
    let part = sender_changed c.args.channel.now c.args.note.now side c.args.core.now.plain c.requires.sender is in
    hardening_ends c.in-Err-write_sender.unwritten (manager_of c.args.core.now) x x c.write_sender.new.parts c.reserve.new.self.dids channel note (SetSender channel side.hardened) bytes (with_senders (set_sender side x.ends.senders) x.ends) c.agent_of-agent.result c.stop_of-stopped.result
    c.agent_of-agent.ensures c.stop_of-stopped.ensures (mode_up (frozen_of x) x.mode (ap (λ (k : CoreValue). is_up k.plain.running) v ∙ c.requires.up)) (same_aside x) c.requires.bytes c.requires.size c.in-Err-write_sender.ensures plain part
    (ap (λ (w : CoreValue). w.faults) v) (c.reserve.ensures.dids ∙ ap (λ (w : CoreValue). w.delta) v)

pub invariant_of-core-2 : goal.invariant_of-core-2
invariant_of-core-2 g c =
    let x : PartsValue = c.core.inside.parts in
    let bytes = c.args.bytes.now in
    let side = c.in-Ok-kept_sender.kept in
    hardened_tied bytes (with_senders (set_sender side x.ends.senders) x.ends) x x c.write_sender.new.parts (same_aside x) c.in-Ok-write_sender.ensures c.core.invariant

pub returns-clause-meets : goal.returns-clause-meets
returns-clause-meets g c =
    let v = c.core.view_is ∙ c.begin_call.ensures in
    let plain = ap (λ (w : CoreValue). w.plain) v in
    let x : PartsValue = c.core.inside.parts in
    let channel = c.args.channel.now in
    let note = c.args.note.now in
    let bytes = c.args.bytes.now in
    let side = c.in-Ok-kept_sender.kept in
    let is = c.in-Ok-kept_sender.ensures ∙ c.in-Ok-noted_sender.ensures ∙ ap (noted_sender c.args.channel.now c.args.note.now) plain in
    let part = sender_changed c.args.channel.now c.args.note.now side c.args.core.now.plain c.requires.sender is in
    let up = mode_up (frozen_of x) x.mode (ap (λ (p : Plain). is_up p.running) plain ∙ c.requires.up) in
    let w = c.in-Ok-write_sender.ensures in
    let armed : x.log.armed ≡ c.args.core.now.plain.log.armed = ap (λ (p : Plain). p.log.armed) plain in
    let faults : x.log.faults ≡ c.args.core.now.faults = ap (λ (w : CoreValue). w.faults) v in
    hardened_meets (manager_of c.args.core.now) _ channel note (SetSender channel side.hardened) part
    (sender_hardened (note_record channel note) bytes side channel x c.write_sender.new.parts c.args.core.now.plain up c.requires.bytes c.requires.size w (ap (λ (k : SenderSide). k.channel) is) plain)
    (ap (λ (t : Telling). t.dids) c.tell.ensures ∙ ap (λ (ds : List Did). ds ++ did.Hardened channel note ∷ []) (c.reserve.ensures.dids ∙ ap (λ (w : CoreValue). w.delta) v))
    (ap (λ (w : CoreValue). w.stopped) v)
    (omega (arith, faults, w.log.later))
    (λ some. let here : 0 < x.log.armed = omega (arith, armed, some) in let more = w.log.calls.1 here in omega (arith, armed, more))

pub returns-in-Err-write_sender-clause-told : goal.returns-in-Err-write_sender-clause-told
returns-in-Err-write_sender-clause-told g c =
    let v = c.core.view_is ∙ c.begin_call.ensures in
    let plain = ap (λ (w : CoreValue). w.plain) v in
    let x : PartsValue = c.core.inside.parts in
    let side = c.in-Ok-kept_sender.kept in
    let is = c.in-Ok-kept_sender.ensures ∙ c.in-Ok-noted_sender.ensures ∙ ap (noted_sender c.args.channel.now c.args.note.now) plain in
    let part = sender_changed c.args.channel.now c.args.note.now side c.args.core.now.plain c.requires.sender is in
    hardening_told c.in-Err-write_sender.unwritten c.args.core.now _ x x c.write_sender.new.parts c.args.channel.now c.args.note.now (SetSender c.args.channel.now side.hardened) c.args.bytes.now (with_senders (set_sender side x.ends.senders) x.ends) c.agent_of-agent.result
    c.agent_of-agent.ensures (mode_up (frozen_of x) x.mode (ap (λ (k : CoreValue). is_up k.plain.running) v ∙ c.requires.up)) (same_aside x) c.requires.bytes c.requires.size c.in-Err-write_sender.ensures part (ap (λ (w : CoreValue). w.plain) v) (ap (λ (w : CoreValue). w.log) v) refl refl

pub returns-clause-told : goal.returns-clause-told
returns-clause-told g c =
    let plain = ap (λ (w : CoreValue). w.plain) (c.core.view_is ∙ c.begin_call.ensures) in
    let x : PartsValue = c.core.inside.parts in
    let side = c.in-Ok-kept_sender.kept in
    let is = c.in-Ok-kept_sender.ensures ∙ c.in-Ok-noted_sender.ensures ∙ ap (noted_sender c.args.channel.now c.args.note.now) plain in
    let part = sender_changed c.args.channel.now c.args.note.now side c.args.core.now.plain c.requires.sender is in
    let r = note_record c.args.channel.now c.args.note.now in
    hardened_wrote c.args.channel.now c.args.note.now (SetSender c.args.channel.now side.hardened) c.args.core.now.plain c.args.core.now.log _ part c.requires.size.1
    (hardened_bodies r c.args.bytes.now (with_senders (set_sender side x.ends.senders) x.ends) x c.write_sender.new.parts c.requires.bytes c.in-Ok-write_sender.ensures
    ∙ ap (behind_record (Some r)) (ap (λ (w : CoreValue). w.log) (c.core.view_is ∙ c.begin_call.ensures)))
