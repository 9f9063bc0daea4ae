use Rattle.std.proofs.Common.{◌≡◌, ℕ, ◌+◌, ◌-◌, ◌≤◌, ◌<◌, ◌∙◌, Bool, true, sym, ap, subst, refl, arith}
use Rattle.std.specs.Prelude.{List, Option, [], ◌∷◌, ◌++◌, length, is_some, map, Some, None, Ok, Err}
use Rattle.std.specs.List.{flat_map}
use Rattle.std.proofs.lemmas.List.{length-map}
use Rattle.mq_message.specs.declared.place.Holder.TheVariants as holders
use Rattle.mq_sync.specs.declared.data.InDoubt.{InDoubt}
use Rattle.mq_calls.specs.declared.agents.Note.TheVariants as notes
use Rattle.mq_calls.specs.declared.deltas.Did.TheVariants as did
use Rattle.mq_calls.specs.declared.records.LogRecord.TheVariants as records
use Rattle.mq_calls.specs.Words.{ManagerValue, Plain, SenderData, Step, Do, MeetsOrWants, is_up, sender_or, sender_in, sender_data, set_sender, data_settled, settle_by, logged, apply_all}
use Rattle.mq_calls.specs.Reads.{in_doubt_of}
use Rattle.mq_calls.specs.Recovery.{listed}
use Rattle.mq_calls.specs.declared.deltas.Did.{Did}
use Rattle.mq_calls.specs.declared.records.Remove.{Remove}
use Rattle.mq_calls.specs.declared.state.SenderSide.{SenderSide}
use Rattle.mq_calls.specs.declared.records.LogRecord.{LogRecord}
use Rattle.mq_calls.specs.State.Change.{SetSender}
use Rattle.mq_calls.specs.Meeting.Wants.{Anywhere}
use Rattle.mq_spec_manager.specs.Words.{Never}
use Rattle.mq_spec_manager.specs.Agents.{harden, held_on, held_rows, settle_change, settle_did}
use Rattle.mq_law_manager.specs.Facts.{Sound, AreNamed}
use Rattle.mq_place.specs.States.{queues_of}
use Rattle.mq_log.specs.State.{LogState}
use Rattle.mq_get.specs.from_unit.Told.{Telling}
use Rattle.mq_core.specs.declared.parts.ChannelEnds.{ChannelEnds}
use Rattle.mq_core.specs.declared.parts.StoppedWrite.TheVariants as writes
use Rattle.mq_core.specs.Views.{PartsValue, plain_of, frozen_of}
use Rattle.mq_core.specs.Ties.{EndsReady, Tied, mode_is_up}
use Rattle.mq_core.proofs.MeetLaws.{mode_up}
use Rattle.mq_core.proofs.PutLaws.{tied_roomier, roomier_view}
use Rattle.mq_core.specs.Values.{CoreValue, manager_of, bodies_in, behind_record}
use Rattle.mq_core.proofs.WriteLaws.{roomier_bodies, writes_as}
use Rattle.mq_agents.specs.Ends.{halt_of}
use Rattle.mq_agents.specs.Written.{drawn_need, with_senders}
use Rattle.mq_agents.specs.Settling.{AreLone, doubt_before, freed_room, settled_changes, settled_told}
use Rattle.mq_agents.proofs.HeldLaws.{few_held, lone}
use Rattle.mq_agents.proofs.WriteLaws.{aside_bodies, aside_tied, aside_view, hardened_tied, hardened_bodies, rows_aside, sender_hardened, unwritten_ends, unwritten_told, tied_after, wanted_meets, wants_none, wrote_as}
use Rattle.mq_agents.proofs.SettleLaws.{IsSettling, drawn_ends, drawn_spare, freed_ready, listed_more, no_short, settled_none, settled_part, settled_tied, settled_done, settles_as, settled_noted, settling_aside, settling_ends, settling_live, settling_more, settling_none, settling_ready, settling_up, told_enough}
use Rattle.mq_agents.proofs.ReadyLaws.{doubt_stood, drawn_within, listed_room, old_sender, sender_freed}
use Rattle.mq_agents.proofs.settling.settle_unit.Goals as goal

pub list_rows-requires-clause-sound : goal.list_rows-requires-clause-sound
list_rows-requires-clause-sound g c =
    let v = c.core.view_is ∙ c.begin_call.ensures in
    subst Sound (sym (ap (λ (w : CoreValue). w.plain) v)) c.requires.sound

pub list_rows-requires-clause-named : goal.list_rows-requires-clause-named
list_rows-requires-clause-named g c =
    let v = c.core.view_is ∙ c.begin_call.ensures in
    subst (λ (p : Plain). AreNamed p.queues) (sym (ap (λ (w : CoreValue). w.plain) v)) c.requires.named

pub returns-in-Err-clause-meets : goal.returns-in-Err-clause-meets
returns-in-Err-clause-meets g c =
    let v = c.core.view_is ∙ c.begin_call.ensures in
    let x : PartsValue = c.core.inside.parts in
    let k : PartsValue = c.list_rows.new.parts in
    let more = listed_more x k c.list_rows.ensures.same c.list_rows.ensures.room in
    wanted_meets (manager_of c.args.core.now) x k c.core.inside.effects.dids c.core.inside.stopped (harden c.args.channel.now (notes.Resolved c.args.unit.now c.args.commit c.args.operator) c.args.core.now.plain) more
    (ap (λ (w : CoreValue). w.plain) v) (ap (λ (w : CoreValue). w.faults) v) (ap (λ (w : CoreValue). w.delta) v) (ap (λ (w : CoreValue). w.stopped) v)

pub returns-in-Err-clause-told : goal.returns-in-Err-clause-told
returns-in-Err-clause-told g c =
    let v = c.core.view_is ∙ c.begin_call.ensures in
    let x : PartsValue = c.core.inside.parts in
    let k : PartsValue = c.list_rows.new.parts in
    let more = listed_more x k c.list_rows.ensures.same c.list_rows.ensures.room in
    roomier_bodies x k more ∙ ap (λ (w : CoreValue). w.log) v

pub returns-in-Err-clause-wants : goal.returns-in-Err-clause-wants
returns-in-Err-clause-wants g c =
    let v = c.core.view_is ∙ c.begin_call.ensures in
    let plain = ap (λ (w : CoreValue). w.plain) v in
    let x : PartsValue = c.core.inside.parts in
    let k : PartsValue = c.list_rows.new.parts in
    let up = mode_up (frozen_of x) x.mode (ap (λ (p : Plain). is_up p.running) plain ∙ c.requires.up) in
    let more = listed_more x k c.list_rows.ensures.same c.list_rows.ensures.room in
    λ some.
    let o : Option InDoubt = in_doubt_of (sender_data c.args.channel.now (plain_of x)) in
    absurd (no_short o (x.ends.rows.room + length x.ends.rows.rows) c.in-Err.ensures.memory (listed_room c.args.channel.now x.ends x.log.spare (c.core.invariant.up up).ends) (ap (λ (q : Plain). is_some (in_doubt_of (sender_data c.args.channel.now q))) plain ∙ some))

pub invariant_of-core-in-Err-tell_room : goal.invariant_of-core-in-Err-tell_room
invariant_of-core-in-Err-tell_room g c =
    let v = c.core.view_is ∙ c.begin_call.ensures in
    let plain = ap (λ (w : CoreValue). w.plain) v in
    let x : PartsValue = c.core.inside.parts in
    let k : PartsValue = c.list_rows.new.parts in
    let up = mode_up (frozen_of x) x.mode (ap (λ (p : Plain). is_up p.running) plain ∙ c.requires.up) in
    let more = listed_more x k c.list_rows.ensures.same c.list_rows.ensures.room in
    tied_roomier x k more c.core.invariant

pub returns-in-Err-tell_room-clause-meets : goal.returns-in-Err-tell_room-clause-meets
returns-in-Err-tell_room-clause-meets g c =
    let v = c.core.view_is ∙ c.begin_call.ensures in
    let x : PartsValue = c.core.inside.parts in
    let k : PartsValue = c.list_rows.new.parts in
    let more = listed_more x k c.list_rows.ensures.same c.list_rows.ensures.room in
    wanted_meets (manager_of c.args.core.now) x k c.tell_room.new.effects.dids c.core.inside.stopped (harden c.args.channel.now (notes.Resolved c.args.unit.now c.args.commit c.args.operator) c.args.core.now.plain) more
    (ap (λ (w : CoreValue). w.plain) v) (ap (λ (w : CoreValue). w.faults) v) (c.tell_room.ensures.dids ∙ ap (λ (w : CoreValue). w.delta) v) (ap (λ (w : CoreValue). w.stopped) v)

pub returns-in-Err-tell_room-clause-told : goal.returns-in-Err-tell_room-clause-told
returns-in-Err-tell_room-clause-told g c =
    let v = c.core.view_is ∙ c.begin_call.ensures in
    let x : PartsValue = c.core.inside.parts in
    let k : PartsValue = c.list_rows.new.parts in
    let more = listed_more x k c.list_rows.ensures.same c.list_rows.ensures.room in
    roomier_bodies x k more ∙ ap (λ (w : CoreValue). w.log) v

pub returns-in-Err-tell_room-clause-wants : goal.returns-in-Err-tell_room-clause-wants
returns-in-Err-tell_room-clause-wants g c =
    let v = c.core.view_is ∙ c.begin_call.ensures in
    let plain = ap (λ (w : CoreValue). w.plain) v in
    let x : PartsValue = c.core.inside.parts in
    let k : PartsValue = c.list_rows.new.parts in
    let up = mode_up (frozen_of x) x.mode (ap (λ (p : Plain). is_up p.running) plain ∙ c.requires.up) in
    let more = listed_more x k c.list_rows.ensures.same c.list_rows.ensures.room in
    λ some.
    let yes_ : c.has_doubt-had.result ≡ true = c.has_doubt-had.ensures ∙ ap (λ (q : Plain). is_some (in_doubt_of (sender_data c.args.channel.now q))) (roomier_view x k more ∙ plain) ∙ some in
    absurd (cc (yes_, c.in-Err-tell_room.ensures.wants))

pub draw_if-requires : goal.draw_if-requires
draw_if-requires g c =
    let v = c.core.view_is ∙ c.begin_call.ensures in
    let plain = ap (λ (w : CoreValue). w.plain) v in
    let x : PartsValue = c.core.inside.parts in
    let k : PartsValue = c.list_rows.new.parts in
    let up = mode_up (frozen_of x) x.mode (ap (λ (p : Plain). is_up p.running) plain ∙ c.requires.up) in
    let more = listed_more x k c.list_rows.ensures.same c.list_rows.ensures.room in
    drawn_within c.has_doubt-had.result c.args.channel.now k.ends k.log.spare ((tied_roomier x k more c.core.invariant).up (ap (λ (p : PartsValue). mode_is_up p.mode) more.same ∙ up)).ends c.has_doubt-had.ensures

pub kept_settled-kept-requires : goal.kept_settled-kept-requires
kept_settled-kept-requires g c =
    ap (λ (s : SenderSide). s.hardened.in_doubt) c.settled_side-side.ensures ∙ settled_none c.args.commit (sender_or (sender_data c.args.channel.now (plain_of c.draw_if.new.parts)))

pub write_settled-requires-clause-live : goal.write_settled-requires-clause-live
write_settled-requires-clause-live g c =
    let v = c.core.view_is ∙ c.begin_call.ensures in
    let plain = ap (λ (w : CoreValue). w.plain) v in
    let x : PartsValue = c.core.inside.parts in
    let k : PartsValue = c.list_rows.new.parts in
    let up = mode_up (frozen_of x) x.mode (ap (λ (p : Plain). is_up p.running) plain ∙ c.requires.up) in
    let more = listed_more x k c.list_rows.ensures.same c.list_rows.ensures.room in
    let y : PartsValue = c.draw_if.new.parts in
    let channel = c.args.channel.now in
    let had : Bool = c.has_doubt-had.result in
    let f : IsSettling had channel x k y = record { up = up; tied = c.core.invariant; more = more; drawn = c.draw_if.ensures; doubt = c.has_doubt-had.ensures } in
    settling_live had channel x k y f

pub write_settled-requires-clause-small : goal.write_settled-requires-clause-small
write_settled-requires-clause-small g c =
    omega (arith, c.requires.small)

pub write_settled-requires-clause-ends : goal.write_settled-requires-clause-ends
write_settled-requires-clause-ends g c =
    let v = c.core.view_is ∙ c.begin_call.ensures in
    let plain = ap (λ (w : CoreValue). w.plain) v in
    let x : PartsValue = c.core.inside.parts in
    let k : PartsValue = c.list_rows.new.parts in
    let up = mode_up (frozen_of x) x.mode (ap (λ (p : Plain). is_up p.running) plain ∙ c.requires.up) in
    let more = listed_more x k c.list_rows.ensures.same c.list_rows.ensures.room in
    let y : PartsValue = c.draw_if.new.parts in
    let channel = c.args.channel.now in
    let had : Bool = c.has_doubt-had.result in
    let f : IsSettling had channel x k y = record { up = up; tied = c.core.invariant; more = more; drawn = c.draw_if.ensures; doubt = c.has_doubt-had.ensures } in
    let side : SenderSide = c.kept_settled-kept.result in
    let sided = c.kept_settled-kept.ensures ∙ c.settled_side-side.ensures in
    settling_ends had channel x k y f side (ap (λ (s : SenderSide). s.channel) sided) (ap (λ (s : SenderSide). s.hardened.in_doubt) sided ∙ settled_none c.args.commit (sender_or (sender_data c.args.channel.now (plain_of c.draw_if.new.parts))))

pub invariant_of-core-in-Err-write_settled : goal.invariant_of-core-in-Err-write_settled
invariant_of-core-in-Err-write_settled g c =
    let v = c.core.view_is ∙ c.begin_call.ensures in
    let plain = ap (λ (w : CoreValue). w.plain) v in
    let x : PartsValue = c.core.inside.parts in
    let k : PartsValue = c.list_rows.new.parts in
    let up = mode_up (frozen_of x) x.mode (ap (λ (p : Plain). is_up p.running) plain ∙ c.requires.up) in
    let more = listed_more x k c.list_rows.ensures.same c.list_rows.ensures.room in
    let y : PartsValue = c.draw_if.new.parts in
    let channel = c.args.channel.now in
    let had : Bool = c.has_doubt-had.result in
    let f : IsSettling had channel x k y = record { up = up; tied = c.core.invariant; more = more; drawn = c.draw_if.ensures; doubt = c.has_doubt-had.ensures } in
    let p : Plain = c.args.core.now.plain in
    let unit = c.args.unit.now in
    let commit = c.args.commit in
    let operator = c.args.operator in
    let bytes : List ℕ = c.args.bytes.now in
    let rows : List Remove = y.ends.rows.rows in
    let r : LogRecord = records.Resolved channel unit commit operator in
    let side : SenderSide = c.kept_settled-kept.result in
    let sided = c.kept_settled-kept.ensures ∙ c.settled_side-side.ensures in
    let named : side.channel ≡ channel = ap (λ (s : SenderSide). s.channel) sided in
    let settled : side.hardened.in_doubt ≡ None = ap (λ (s : SenderSide). s.hardened.in_doubt) sided ∙ settled_none c.args.commit (sender_or (sender_data c.args.channel.now (plain_of c.draw_if.new.parts))) in
    let e : ChannelEnds = with_senders (set_sender side y.ends.senders) y.ends in
    let z : PartsValue = c.write_settled.new.parts in
    let m = settling_aside had channel x k y f in
    let write = writes.Settled channel unit commit operator rows in
    let u = c.in-Err-write_settled.unwritten in
    tied_after u x y z write r bytes e m (settling_more had channel x k y f side.channel (length bytes) u c.requires.small named c.in-Err-write_settled.ensures.lacks) c.requires.bytes c.requires.size c.in-Err-write_settled.ensures.written c.core.invariant

pub returns-in-Err-write_settled-clause-wants : goal.returns-in-Err-write_settled-clause-wants
returns-in-Err-write_settled-clause-wants g c =
    let v = c.core.view_is ∙ c.begin_call.ensures in
    let plain = ap (λ (w : CoreValue). w.plain) v in
    let x : PartsValue = c.core.inside.parts in
    let k : PartsValue = c.list_rows.new.parts in
    let up = mode_up (frozen_of x) x.mode (ap (λ (p : Plain). is_up p.running) plain ∙ c.requires.up) in
    let more = listed_more x k c.list_rows.ensures.same c.list_rows.ensures.room in
    let y : PartsValue = c.draw_if.new.parts in
    let channel = c.args.channel.now in
    let had : Bool = c.has_doubt-had.result in
    let f : IsSettling had channel x k y = record { up = up; tied = c.core.invariant; more = more; drawn = c.draw_if.ensures; doubt = c.has_doubt-had.ensures } in
    let p : Plain = c.args.core.now.plain in
    let unit = c.args.unit.now in
    let commit = c.args.commit in
    let operator = c.args.operator in
    let bytes : List ℕ = c.args.bytes.now in
    let rows : List Remove = y.ends.rows.rows in
    let r : LogRecord = records.Resolved channel unit commit operator in
    let side : SenderSide = c.kept_settled-kept.result in
    let sided = c.kept_settled-kept.ensures ∙ c.settled_side-side.ensures in
    let named : side.channel ≡ channel = ap (λ (s : SenderSide). s.channel) sided in
    let settled : side.hardened.in_doubt ≡ None = ap (λ (s : SenderSide). s.hardened.in_doubt) sided ∙ settled_none c.args.commit (sender_or (sender_data c.args.channel.now (plain_of c.draw_if.new.parts))) in
    let e : ChannelEnds = with_senders (set_sender side y.ends.senders) y.ends in
    let z : PartsValue = c.write_settled.new.parts in
    let m = settling_aside had channel x k y f in
    let write = writes.Settled channel unit commit operator rows in
    let u = c.in-Err-write_settled.unwritten in
    λ some.
    let yes_ : had ≡ true = c.has_doubt-had.ensures ∙ ap (λ (q : Plain). is_some (in_doubt_of (sender_data channel q))) (roomier_view x k more ∙ plain) ∙ some in
    wants_none u c.agent_of-agent.result c.agent_of-agent.ensures (settling_none had channel x k y f side.channel (length bytes) u yes_ c.requires.small named c.in-Err-write_settled.ensures.lacks)

pub returns-in-Err-write_settled-clause-meets : goal.returns-in-Err-write_settled-clause-meets
returns-in-Err-write_settled-clause-meets g c =
    let v = c.core.view_is ∙ c.begin_call.ensures in
    let plain = ap (λ (w : CoreValue). w.plain) v in
    let x : PartsValue = c.core.inside.parts in
    let k : PartsValue = c.list_rows.new.parts in
    let up = mode_up (frozen_of x) x.mode (ap (λ (p : Plain). is_up p.running) plain ∙ c.requires.up) in
    let more = listed_more x k c.list_rows.ensures.same c.list_rows.ensures.room in
    let y : PartsValue = c.draw_if.new.parts in
    let channel = c.args.channel.now in
    let had : Bool = c.has_doubt-had.result in
    let f : IsSettling had channel x k y = record { up = up; tied = c.core.invariant; more = more; drawn = c.draw_if.ensures; doubt = c.has_doubt-had.ensures } in
    let p : Plain = c.args.core.now.plain in
    let unit = c.args.unit.now in
    let commit = c.args.commit in
    let operator = c.args.operator in
    let bytes : List ℕ = c.args.bytes.now in
    let rows : List Remove = y.ends.rows.rows in
    let r : LogRecord = records.Resolved channel unit commit operator in
    let side : SenderSide = c.kept_settled-kept.result in
    let sided = c.kept_settled-kept.ensures ∙ c.settled_side-side.ensures in
    let named : side.channel ≡ channel = ap (λ (s : SenderSide). s.channel) sided in
    let settled : side.hardened.in_doubt ≡ None = ap (λ (s : SenderSide). s.hardened.in_doubt) sided ∙ settled_none c.args.commit (sender_or (sender_data c.args.channel.now (plain_of c.draw_if.new.parts))) in
    let e : ChannelEnds = with_senders (set_sender side y.ends.senders) y.ends in
    let z : PartsValue = c.write_settled.new.parts in
    let m = settling_aside had channel x k y f in
    let write = writes.Settled channel unit commit operator rows in
    let old : SenderData = sender_or (sender_data channel p) in
    let rowed : rows ≡ k.ends.rows.rows = ap (λ (n : ChannelEnds). n.rows.rows) (drawn_ends had k y c.draw_if.ensures) in
    let all_rows : rows ≡ held_rows (holders.Batch channel) p = rowed ∙ c.in-Ok.ensures.rows ∙ ap (λ (q : Plain). held_rows (holders.Batch channel) q) plain in
    let step = settles_as commit operator channel unit rows old p all_rows refl in
    let nothing : Unit {0} = tt in
    let note = settled_noted commit operator channel unit rows old x (ap (λ (q : Plain). sender_or (sender_data channel q)) (sym plain)) in
    let new : ManagerValue = record { plain = plain_of z; delta = c.tell_room.new.effects.dids; stopped = c.stop_of-stopped.result; faults = z.log.faults } in
    subst (λ (s : Step Never (Unit {0})). MeetsOrWants (manager_of c.args.core.now) s (Err (halt_of {F = Never} c.agent_of-agent.result)) new) (sym step)
    (unwritten_ends Never c.in-Err-write_settled.unwritten (manager_of c.args.core.now) x y z c.tell_room.new.effects.dids write r (settled_changes commit channel old) (settled_told commit operator channel unit rows) nothing bytes e
    c.agent_of-agent.result c.stop_of-stopped.result c.agent_of-agent.ensures c.stop_of-stopped.ensures up m c.requires.bytes c.requires.size c.in-Err-write_settled.ensures.written note plain
    (ap (λ (w : CoreValue). w.faults) v) (c.tell_room.ensures.dids ∙ ap (λ (w : CoreValue). w.delta) v))

pub returns-in-Err-write_settled-clause-told : goal.returns-in-Err-write_settled-clause-told
returns-in-Err-write_settled-clause-told g c =
    let v = c.core.view_is ∙ c.begin_call.ensures in
    let plain = ap (λ (w : CoreValue). w.plain) v in
    let x : PartsValue = c.core.inside.parts in
    let k : PartsValue = c.list_rows.new.parts in
    let up = mode_up (frozen_of x) x.mode (ap (λ (p : Plain). is_up p.running) plain ∙ c.requires.up) in
    let more = listed_more x k c.list_rows.ensures.same c.list_rows.ensures.room in
    let y : PartsValue = c.draw_if.new.parts in
    let channel = c.args.channel.now in
    let had : Bool = c.has_doubt-had.result in
    let f : IsSettling had channel x k y = record { up = up; tied = c.core.invariant; more = more; drawn = c.draw_if.ensures; doubt = c.has_doubt-had.ensures } in
    let p : Plain = c.args.core.now.plain in
    let unit = c.args.unit.now in
    let commit = c.args.commit in
    let operator = c.args.operator in
    let bytes : List ℕ = c.args.bytes.now in
    let rows : List Remove = y.ends.rows.rows in
    let r : LogRecord = records.Resolved channel unit commit operator in
    let side : SenderSide = c.kept_settled-kept.result in
    let sided = c.kept_settled-kept.ensures ∙ c.settled_side-side.ensures in
    let named : side.channel ≡ channel = ap (λ (s : SenderSide). s.channel) sided in
    let settled : side.hardened.in_doubt ≡ None = ap (λ (s : SenderSide). s.hardened.in_doubt) sided ∙ settled_none c.args.commit (sender_or (sender_data c.args.channel.now (plain_of c.draw_if.new.parts))) in
    let e : ChannelEnds = with_senders (set_sender side y.ends.senders) y.ends in
    let z : PartsValue = c.write_settled.new.parts in
    let m = settling_aside had channel x k y f in
    let write = writes.Settled channel unit commit operator rows in
    let old : SenderData = sender_or (sender_data channel p) in
    let rowed : rows ≡ k.ends.rows.rows = ap (λ (n : ChannelEnds). n.rows.rows) (drawn_ends had k y c.draw_if.ensures) in
    let all_rows : rows ≡ held_rows (holders.Batch channel) p = rowed ∙ c.in-Ok.ensures.rows ∙ ap (λ (q : Plain). held_rows (holders.Batch channel) q) plain in
    let step = settles_as commit operator channel unit rows old p all_rows refl in
    let nothing : Unit {0} = tt in
    let note = settled_noted commit operator channel unit rows old x (ap (λ (q : Plain). sender_or (sender_data channel q)) (sym plain)) in
    writes_as c.args.core.now _ (harden channel (notes.Resolved unit commit operator) p) (Do nothing (settled_part commit operator channel unit rows old ∷ [])) (Err (halt_of {F = Never} c.agent_of-agent.result)) step
    (unwritten_told Never c.in-Err-write_settled.unwritten c.args.core.now _ x y z write r (settled_changes commit channel old) (settled_told commit operator channel unit rows) nothing bytes e
    c.agent_of-agent.result c.agent_of-agent.ensures up m c.requires.bytes c.requires.size c.in-Err-write_settled.ensures.written note plain (ap (λ (w : CoreValue). w.log) v) refl refl)

pub take_room-requires : goal.take_room-requires
take_room-requires g c =
    let v = c.core.view_is ∙ c.begin_call.ensures in
    let plain = ap (λ (w : CoreValue). w.plain) v in
    let x : PartsValue = c.core.inside.parts in
    let k : PartsValue = c.list_rows.new.parts in
    let up = mode_up (frozen_of x) x.mode (ap (λ (p : Plain). is_up p.running) plain ∙ c.requires.up) in
    let more = listed_more x k c.list_rows.ensures.same c.list_rows.ensures.room in
    c.tell_room.ensures.dids ∙ ap (λ (w : CoreValue). w.delta) v

pub settle_rows-requires-clause-listed : goal.settle_rows-requires-clause-listed
settle_rows-requires-clause-listed g c =
    let v = c.core.view_is ∙ c.begin_call.ensures in
    let plain = ap (λ (w : CoreValue). w.plain) v in
    let x : PartsValue = c.core.inside.parts in
    let k : PartsValue = c.list_rows.new.parts in
    let up = mode_up (frozen_of x) x.mode (ap (λ (p : Plain). is_up p.running) plain ∙ c.requires.up) in
    let more = listed_more x k c.list_rows.ensures.same c.list_rows.ensures.room in
    let y : PartsValue = c.draw_if.new.parts in
    let channel = c.args.channel.now in
    let had : Bool = c.has_doubt-had.result in
    let f : IsSettling had channel x k y = record { up = up; tied = c.core.invariant; more = more; drawn = c.draw_if.ensures; doubt = c.has_doubt-had.ensures } in
    let p : Plain = c.args.core.now.plain in
    let unit = c.args.unit.now in
    let commit = c.args.commit in
    let operator = c.args.operator in
    let bytes : List ℕ = c.args.bytes.now in
    let rows : List Remove = y.ends.rows.rows in
    let r : LogRecord = records.Resolved channel unit commit operator in
    let side : SenderSide = c.kept_settled-kept.result in
    let sided = c.kept_settled-kept.ensures ∙ c.settled_side-side.ensures in
    let named : side.channel ≡ channel = ap (λ (s : SenderSide). s.channel) sided in
    let settled : side.hardened.in_doubt ≡ None = ap (λ (s : SenderSide). s.hardened.in_doubt) sided ∙ settled_none c.args.commit (sender_or (sender_data c.args.channel.now (plain_of c.draw_if.new.parts))) in
    let e : ChannelEnds = with_senders (set_sender side y.ends.senders) y.ends in
    let z : PartsValue = c.write_settled.new.parts in
    let m = settling_aside had channel x k y f in
    let write = writes.Settled channel unit commit operator rows in
    let old : SenderData = sender_or (sender_data channel p) in
    let rowed : rows ≡ k.ends.rows.rows = ap (λ (n : ChannelEnds). n.rows.rows) (drawn_ends had k y c.draw_if.ensures) in
    let all_rows : rows ≡ held_rows (holders.Batch channel) p = rowed ∙ c.in-Ok.ensures.rows ∙ ap (λ (q : Plain). held_rows (holders.Batch channel) q) plain in
    let step = settles_as commit operator channel unit rows old p all_rows refl in
    let nothing : Unit {0} = tt in
    let w = c.in-Ok-write_settled.ensures.written.1 in
    ap (λ (q : PartsValue). q.ends.rows.rows) w.same ∙ rowed ∙ c.in-Ok.ensures.rows
    ∙ ap (λ (q : Plain). flat_map (held_on (holders.Batch channel)) q.queues) (sym (aside_view x y m)) ∙ ap (λ (q : PartsValue). flat_map (held_on (holders.Batch channel)) (queues_of q.queues.states)) (sym w.same)

pub settle_rows-requires-clause-lone : goal.settle_rows-requires-clause-lone
settle_rows-requires-clause-lone g c =
    let v = c.core.view_is ∙ c.begin_call.ensures in
    let plain = ap (λ (w : CoreValue). w.plain) v in
    let x : PartsValue = c.core.inside.parts in
    let k : PartsValue = c.list_rows.new.parts in
    let up = mode_up (frozen_of x) x.mode (ap (λ (p : Plain). is_up p.running) plain ∙ c.requires.up) in
    let more = listed_more x k c.list_rows.ensures.same c.list_rows.ensures.room in
    let y : PartsValue = c.draw_if.new.parts in
    let channel = c.args.channel.now in
    let had : Bool = c.has_doubt-had.result in
    let f : IsSettling had channel x k y = record { up = up; tied = c.core.invariant; more = more; drawn = c.draw_if.ensures; doubt = c.has_doubt-had.ensures } in
    let p : Plain = c.args.core.now.plain in
    let unit = c.args.unit.now in
    let commit = c.args.commit in
    let operator = c.args.operator in
    let bytes : List ℕ = c.args.bytes.now in
    let rows : List Remove = y.ends.rows.rows in
    let r : LogRecord = records.Resolved channel unit commit operator in
    let side : SenderSide = c.kept_settled-kept.result in
    let sided = c.kept_settled-kept.ensures ∙ c.settled_side-side.ensures in
    let named : side.channel ≡ channel = ap (λ (s : SenderSide). s.channel) sided in
    let settled : side.hardened.in_doubt ≡ None = ap (λ (s : SenderSide). s.hardened.in_doubt) sided ∙ settled_none c.args.commit (sender_or (sender_data c.args.channel.now (plain_of c.draw_if.new.parts))) in
    let e : ChannelEnds = with_senders (set_sender side y.ends.senders) y.ends in
    let z : PartsValue = c.write_settled.new.parts in
    let m = settling_aside had channel x k y f in
    let write = writes.Settled channel unit commit operator rows in
    let w = c.in-Ok-write_settled.ensures.written.1 in
    subst (λ (q : PartsValue). AreLone (queues_of q.queues.states)) (sym (w.same))
    (subst (λ (q : Plain). AreLone q.queues) (sym (aside_view x y m)) (lone (plain_of x) (subst Sound (sym plain) c.requires.sound) (subst (λ (q : Plain). AreNamed q.queues) (sym plain) c.requires.named)))

pub tell_rows-requires : goal.tell_rows-requires
tell_rows-requires g c =
    let v = c.core.view_is ∙ c.begin_call.ensures in
    let plain = ap (λ (w : CoreValue). w.plain) v in
    let x : PartsValue = c.core.inside.parts in
    let k : PartsValue = c.list_rows.new.parts in
    let up = mode_up (frozen_of x) x.mode (ap (λ (p : Plain). is_up p.running) plain ∙ c.requires.up) in
    let more = listed_more x k c.list_rows.ensures.same c.list_rows.ensures.room in
    let y : PartsValue = c.draw_if.new.parts in
    let channel = c.args.channel.now in
    let had : Bool = c.has_doubt-had.result in
    let f : IsSettling had channel x k y = record { up = up; tied = c.core.invariant; more = more; drawn = c.draw_if.ensures; doubt = c.has_doubt-had.ensures } in
    let p : Plain = c.args.core.now.plain in
    let unit = c.args.unit.now in
    let commit = c.args.commit in
    let operator = c.args.operator in
    let bytes : List ℕ = c.args.bytes.now in
    let rows : List Remove = y.ends.rows.rows in
    let r : LogRecord = records.Resolved channel unit commit operator in
    let side : SenderSide = c.kept_settled-kept.result in
    let sided = c.kept_settled-kept.ensures ∙ c.settled_side-side.ensures in
    let named : side.channel ≡ channel = ap (λ (s : SenderSide). s.channel) sided in
    let settled : side.hardened.in_doubt ≡ None = ap (λ (s : SenderSide). s.hardened.in_doubt) sided ∙ settled_none c.args.commit (sender_or (sender_data c.args.channel.now (plain_of c.draw_if.new.parts))) in
    let e : ChannelEnds = with_senders (set_sender side y.ends.senders) y.ends in
    let z : PartsValue = c.write_settled.new.parts in
    let m = settling_aside had channel x k y f in
    let write = writes.Settled channel unit commit operator rows in
    let w = c.in-Ok-write_settled.ensures.written.1 in
    let q : PartsValue = c.settle_rows.new.parts in
    let before = c.in-Ok-write_settled.before in
    let stood : before ≡ old_sender side.channel y.ends = c.in-Ok-write_settled.ensures.written.0 in
    let ends : q.ends ≡ e = ap (λ (n : PartsValue). n.ends) c.settle_rows.ensures ∙ ap (λ (n : PartsValue). n.ends) w.same in
    let drawn : y.ends ≡ k.ends = drawn_ends had k y c.draw_if.ensures in
    let ready = settling_ready had channel x k y f in
    let doubt : doubt_before before ≡ in_doubt_of (sender_in channel k.ends.senders) =
    ap doubt_before stood ∙ (λ i. doubt_before (old_sender (named i) (drawn i))) ∙ doubt_stood channel k.ends ready.senders in
    let few : (d : InDoubt) → doubt_before before ≡ Some d → c.rows_named-count.result ≤ length d.idents =
    (λ d is.
    let here : in_doubt_of (sender_data channel p) ≡ Some d = ap (λ (n : Plain). in_doubt_of (sender_data channel n)) (sym (roomier_view x k more ∙ plain)) ∙ sym doubt ∙ is in
    let long = few_held channel p d c.requires.sound c.requires.named here in
    let all = ap length (c.in-Ok.ensures.rows ∙ ap (λ (n : Plain). held_rows (holders.Batch channel) n) plain) in
    omega (arith, long, all, c.rows_named-count.ensures)) in
    let enough = told_enough (doubt_before before) had c.rows_named-count.result c.tell_room.new.effects.room c.take_room.new.effects.room (c.has_doubt-had.ensures ∙ ap (λ (o : Option InDoubt). is_some o) (sym doubt)) few
    c.in-Ok-tell_room.ensures.room c.take_room.ensures.room (λ none. ap (λ (t : Telling). t.room) (c.take_room.ensures.same none)) in
    let kept = ap (λ (n : ChannelEnds). length n.rows.rows) ends in
    let was = ap (λ (n : ChannelEnds). length n.rows.rows) drawn in
    omega (arith, enough, kept, was, c.rows_named-count.ensures)

pub tell-requires : goal.tell-requires
tell-requires g c =
    let v = c.core.view_is ∙ c.begin_call.ensures in
    let plain = ap (λ (w : CoreValue). w.plain) v in
    let x : PartsValue = c.core.inside.parts in
    let k : PartsValue = c.list_rows.new.parts in
    let up = mode_up (frozen_of x) x.mode (ap (λ (p : Plain). is_up p.running) plain ∙ c.requires.up) in
    let more = listed_more x k c.list_rows.ensures.same c.list_rows.ensures.room in
    let y : PartsValue = c.draw_if.new.parts in
    let channel = c.args.channel.now in
    let had : Bool = c.has_doubt-had.result in
    let f : IsSettling had channel x k y = record { up = up; tied = c.core.invariant; more = more; drawn = c.draw_if.ensures; doubt = c.has_doubt-had.ensures } in
    let p : Plain = c.args.core.now.plain in
    let unit = c.args.unit.now in
    let commit = c.args.commit in
    let operator = c.args.operator in
    let bytes : List ℕ = c.args.bytes.now in
    let rows : List Remove = y.ends.rows.rows in
    let r : LogRecord = records.Resolved channel unit commit operator in
    let side : SenderSide = c.kept_settled-kept.result in
    let sided = c.kept_settled-kept.ensures ∙ c.settled_side-side.ensures in
    let named : side.channel ≡ channel = ap (λ (s : SenderSide). s.channel) sided in
    let settled : side.hardened.in_doubt ≡ None = ap (λ (s : SenderSide). s.hardened.in_doubt) sided ∙ settled_none c.args.commit (sender_or (sender_data c.args.channel.now (plain_of c.draw_if.new.parts))) in
    let e : ChannelEnds = with_senders (set_sender side y.ends.senders) y.ends in
    let z : PartsValue = c.write_settled.new.parts in
    let m = settling_aside had channel x k y f in
    let write = writes.Settled channel unit commit operator rows in
    let w = c.in-Ok-write_settled.ensures.written.1 in
    let q : PartsValue = c.settle_rows.new.parts in
    let before = c.in-Ok-write_settled.before in
    let stood : before ≡ old_sender side.channel y.ends = c.in-Ok-write_settled.ensures.written.0 in
    let ends : q.ends ≡ e = ap (λ (n : PartsValue). n.ends) c.settle_rows.ensures ∙ ap (λ (n : PartsValue). n.ends) w.same in
    let drawn : y.ends ≡ k.ends = drawn_ends had k y c.draw_if.ensures in
    let ready = settling_ready had channel x k y f in
    let doubt : doubt_before before ≡ in_doubt_of (sender_in channel k.ends.senders) =
    ap doubt_before stood ∙ (λ i. doubt_before (old_sender (named i) (drawn i))) ∙ doubt_stood channel k.ends ready.senders in
    let few : (d : InDoubt) → doubt_before before ≡ Some d → c.rows_named-count.result ≤ length d.idents =
    (λ d is.
    let here : in_doubt_of (sender_data channel p) ≡ Some d = ap (λ (n : Plain). in_doubt_of (sender_data channel n)) (sym (roomier_view x k more ∙ plain)) ∙ sym doubt ∙ is in
    let long = few_held channel p d c.requires.sound c.requires.named here in
    let all = ap length (c.in-Ok.ensures.rows ∙ ap (λ (n : Plain). held_rows (holders.Batch channel) n) plain) in
    omega (arith, long, all, c.rows_named-count.ensures)) in
    let enough = told_enough (doubt_before before) had c.rows_named-count.result c.tell_room.new.effects.room c.take_room.new.effects.room (c.has_doubt-had.ensures ∙ ap (λ (o : Option InDoubt). is_some o) (sym doubt)) few
    c.in-Ok-tell_room.ensures.room c.take_room.ensures.room (λ none. ap (λ (t : Telling). t.room) (c.take_room.ensures.same none)) in
    let kept = ap (λ (n : ChannelEnds). length n.rows.rows) ends in
    let was = ap (λ (n : ChannelEnds). length n.rows.rows) drawn in
    let rest = ap (λ (t : Telling). t.room) c.tell_rows.ensures in
    let long = length-map q.ends.rows.rows (settle_did commit) in
    omega (arith, enough, kept, was, rest, long, c.rows_named-count.ensures)

pub free_rows-requires : goal.free_rows-requires
free_rows-requires g c =
    let v = c.core.view_is ∙ c.begin_call.ensures in
    let plain = ap (λ (w : CoreValue). w.plain) v in
    let x : PartsValue = c.core.inside.parts in
    let k : PartsValue = c.list_rows.new.parts in
    let up = mode_up (frozen_of x) x.mode (ap (λ (p : Plain). is_up p.running) plain ∙ c.requires.up) in
    let more = listed_more x k c.list_rows.ensures.same c.list_rows.ensures.room in
    let y : PartsValue = c.draw_if.new.parts in
    let channel = c.args.channel.now in
    let had : Bool = c.has_doubt-had.result in
    let f : IsSettling had channel x k y = record { up = up; tied = c.core.invariant; more = more; drawn = c.draw_if.ensures; doubt = c.has_doubt-had.ensures } in
    let p : Plain = c.args.core.now.plain in
    let unit = c.args.unit.now in
    let commit = c.args.commit in
    let operator = c.args.operator in
    let bytes : List ℕ = c.args.bytes.now in
    let rows : List Remove = y.ends.rows.rows in
    let r : LogRecord = records.Resolved channel unit commit operator in
    let side : SenderSide = c.kept_settled-kept.result in
    let sided = c.kept_settled-kept.ensures ∙ c.settled_side-side.ensures in
    let named : side.channel ≡ channel = ap (λ (s : SenderSide). s.channel) sided in
    let settled : side.hardened.in_doubt ≡ None = ap (λ (s : SenderSide). s.hardened.in_doubt) sided ∙ settled_none c.args.commit (sender_or (sender_data c.args.channel.now (plain_of c.draw_if.new.parts))) in
    let e : ChannelEnds = with_senders (set_sender side y.ends.senders) y.ends in
    let z : PartsValue = c.write_settled.new.parts in
    let m = settling_aside had channel x k y f in
    let write = writes.Settled channel unit commit operator rows in
    let w = c.in-Ok-write_settled.ensures.written.1 in
    let q : PartsValue = c.settle_rows.new.parts in
    let before = c.in-Ok-write_settled.before in
    let stood : before ≡ old_sender side.channel y.ends = c.in-Ok-write_settled.ensures.written.0 in
    let ends : q.ends ≡ e = ap (λ (n : PartsValue). n.ends) c.settle_rows.ensures ∙ ap (λ (n : PartsValue). n.ends) w.same in
    let drawn : y.ends ≡ k.ends = drawn_ends had k y c.draw_if.ensures in
    let ready = settling_ready had channel x k y f in
    let stands : before ≡ old_sender side.channel k.ends = stood ∙ ap (λ (n : ChannelEnds). old_sender side.channel n) drawn in
    let freed = sender_freed had side channel k.ends k.log.spare c.listed_before-less.result ready named settled c.has_doubt-had.ensures (c.listed_before-less.ensures ∙ ap (λ (o : Option SenderSide). length (listed (doubt_before o))) stands) in
    let shape : q.ends ≡ with_senders (set_sender side k.ends.senders) k.ends = ends ∙ ap (λ (n : ChannelEnds). with_senders (set_sender side n.senders) n) drawn in
    let same = ap (λ (n : ChannelEnds). n.rows.room + length n.rows.rows) shape in
    let within = freed.0 in
    omega (arith, same, within)

pub invariant_of-core-2 : goal.invariant_of-core-2
invariant_of-core-2 g c =
    let v = c.core.view_is ∙ c.begin_call.ensures in
    let plain = ap (λ (w : CoreValue). w.plain) v in
    let x : PartsValue = c.core.inside.parts in
    let k : PartsValue = c.list_rows.new.parts in
    let up = mode_up (frozen_of x) x.mode (ap (λ (p : Plain). is_up p.running) plain ∙ c.requires.up) in
    let more = listed_more x k c.list_rows.ensures.same c.list_rows.ensures.room in
    let y : PartsValue = c.draw_if.new.parts in
    let channel = c.args.channel.now in
    let had : Bool = c.has_doubt-had.result in
    let f : IsSettling had channel x k y = record { up = up; tied = c.core.invariant; more = more; drawn = c.draw_if.ensures; doubt = c.has_doubt-had.ensures } in
    let p : Plain = c.args.core.now.plain in
    let unit = c.args.unit.now in
    let commit = c.args.commit in
    let operator = c.args.operator in
    let bytes : List ℕ = c.args.bytes.now in
    let rows : List Remove = y.ends.rows.rows in
    let r : LogRecord = records.Resolved channel unit commit operator in
    let side : SenderSide = c.kept_settled-kept.result in
    let sided = c.kept_settled-kept.ensures ∙ c.settled_side-side.ensures in
    let named : side.channel ≡ channel = ap (λ (s : SenderSide). s.channel) sided in
    let settled : side.hardened.in_doubt ≡ None = ap (λ (s : SenderSide). s.hardened.in_doubt) sided ∙ settled_none c.args.commit (sender_or (sender_data c.args.channel.now (plain_of c.draw_if.new.parts))) in
    let e : ChannelEnds = with_senders (set_sender side y.ends.senders) y.ends in
    let z : PartsValue = c.write_settled.new.parts in
    let m = settling_aside had channel x k y f in
    let write = writes.Settled channel unit commit operator rows in
    let w = c.in-Ok-write_settled.ensures.written.1 in
    let q : PartsValue = c.settle_rows.new.parts in
    let before = c.in-Ok-write_settled.before in
    let stood : before ≡ old_sender side.channel y.ends = c.in-Ok-write_settled.ensures.written.0 in
    let ends : q.ends ≡ e = ap (λ (n : PartsValue). n.ends) c.settle_rows.ensures ∙ ap (λ (n : PartsValue). n.ends) w.same in
    let drawn : y.ends ≡ k.ends = drawn_ends had k y c.draw_if.ensures in
    let ready = settling_ready had channel x k y f in
    let stands : before ≡ old_sender side.channel k.ends = stood ∙ ap (λ (n : ChannelEnds). old_sender side.channel n) drawn in
    let freed = sender_freed had side channel k.ends k.log.spare c.listed_before-less.result ready named settled c.has_doubt-had.ensures (c.listed_before-less.ensures ∙ ap (λ (o : Option SenderSide). length (listed (doubt_before o))) stands) in
    let shape : q.ends ≡ with_senders (set_sender side k.ends.senders) k.ends = ends ∙ ap (λ (n : ChannelEnds). with_senders (set_sender side n.senders) n) drawn in
    let less = c.listed_before-less.result in
    let new : PartsValue = c.free_rows.new.parts in
    let spare : q.log.spare ≡ k.log.spare - drawn_need had = ap (λ (n : PartsValue). n.log.spare) c.settle_rows.ensures ∙ ap (λ (l : LogState). l.spare) w.log.appended ∙ drawn_spare had k y c.draw_if.ensures in
    let room = ap (λ (n : PartsValue). n.log.room) c.free_rows.ensures in
    aside_tied q new (rows_aside q new (freed_room less q.ends.rows) c.free_rows.ensures) (omega (arith, room))
    (freed_ready less q new c.free_rows.ensures (subst (λ (n : ℕ). EndsReady (record q.ends { rows = freed_room less q.ends.rows }) n) (sym spare) (subst (λ (n : ChannelEnds). EndsReady (record n { rows = freed_room less n.rows }) (k.log.spare - drawn_need had)) (sym shape) freed.1)))
    (subst Tied (sym c.settle_rows.ensures) (settled_tied commit (holders.Batch channel) z (hardened_tied bytes e x y z m w c.core.invariant)))

pub returns-clause-wants : goal.returns-clause-wants
returns-clause-wants g c =
    λ some. tt

pub returns-clause-meets : goal.returns-clause-meets
returns-clause-meets g c =
    let v = c.core.view_is ∙ c.begin_call.ensures in
    let plain = ap (λ (w : CoreValue). w.plain) v in
    let x : PartsValue = c.core.inside.parts in
    let k : PartsValue = c.list_rows.new.parts in
    let up = mode_up (frozen_of x) x.mode (ap (λ (p : Plain). is_up p.running) plain ∙ c.requires.up) in
    let more = listed_more x k c.list_rows.ensures.same c.list_rows.ensures.room in
    let y : PartsValue = c.draw_if.new.parts in
    let channel = c.args.channel.now in
    let had : Bool = c.has_doubt-had.result in
    let f : IsSettling had channel x k y = record { up = up; tied = c.core.invariant; more = more; drawn = c.draw_if.ensures; doubt = c.has_doubt-had.ensures } in
    let p : Plain = c.args.core.now.plain in
    let unit = c.args.unit.now in
    let commit = c.args.commit in
    let operator = c.args.operator in
    let bytes : List ℕ = c.args.bytes.now in
    let rows : List Remove = y.ends.rows.rows in
    let r : LogRecord = records.Resolved channel unit commit operator in
    let side : SenderSide = c.kept_settled-kept.result in
    let sided = c.kept_settled-kept.ensures ∙ c.settled_side-side.ensures in
    let named : side.channel ≡ channel = ap (λ (s : SenderSide). s.channel) sided in
    let settled : side.hardened.in_doubt ≡ None = ap (λ (s : SenderSide). s.hardened.in_doubt) sided ∙ settled_none c.args.commit (sender_or (sender_data c.args.channel.now (plain_of c.draw_if.new.parts))) in
    let e : ChannelEnds = with_senders (set_sender side y.ends.senders) y.ends in
    let z : PartsValue = c.write_settled.new.parts in
    let m = settling_aside had channel x k y f in
    let write = writes.Settled channel unit commit operator rows in
    let old : SenderData = sender_or (sender_data channel p) in
    let rowed : rows ≡ k.ends.rows.rows = ap (λ (n : ChannelEnds). n.rows.rows) (drawn_ends had k y c.draw_if.ensures) in
    let all_rows : rows ≡ held_rows (holders.Batch channel) p = rowed ∙ c.in-Ok.ensures.rows ∙ ap (λ (q : Plain). held_rows (holders.Batch channel) q) plain in
    let step = settles_as commit operator channel unit rows old p all_rows refl in
    let nothing : Unit {0} = tt in
    let w = c.in-Ok-write_settled.ensures.written.1 in
    let q : PartsValue = c.settle_rows.new.parts in
    let before = c.in-Ok-write_settled.before in
    let stood : before ≡ old_sender side.channel y.ends = c.in-Ok-write_settled.ensures.written.0 in
    let ends : q.ends ≡ e = ap (λ (n : PartsValue). n.ends) c.settle_rows.ensures ∙ ap (λ (n : PartsValue). n.ends) w.same in
    let drawn : y.ends ≡ k.ends = drawn_ends had k y c.draw_if.ensures in
    let fresh : SenderData = side.hardened in
    let still = settling_up had channel x k y f in
    let live : mode_is_up z.mode ≡ true = ap (λ (n : PartsValue). mode_is_up n.mode) w.same ∙ still in
    let is : fresh ≡ data_settled (Some (settle_by commit)) old = ap (λ (s : SenderSide). s.hardened) sided ∙ ap (λ (n : Plain). data_settled (Some (settle_by commit)) (sender_or (sender_data channel n))) (aside_view x y m ∙ plain) in
    let new : PartsValue = c.free_rows.new.parts in
    let done =
    aside_view q new (rows_aside q new (freed_room c.listed_before-less.result q.ends.rows) c.free_rows.ensures) ∙ ap plain_of c.settle_rows.ensures
    ∙ settled_done commit channel fresh z (logged (Some r) p) live (sender_hardened r bytes side channel y z p still c.requires.bytes c.requires.size w named (aside_view x y m ∙ plain))
    ∙ ap (λ (d : SenderData). apply_all (settle_change commit channel ∷ SetSender channel d ∷ []) (logged (Some r) p)) is
    in
    let armed : y.log.armed ≡ p.log.armed = ap (λ (n : PartsValue). n.log.armed) m.same ∙ ap (λ (n : Plain). n.log.armed) plain in
    let had_ : y.log.faults ≡ c.args.core.now.faults = ap (λ (n : PartsValue). n.log.faults) m.same ∙ ap (λ (n : CoreValue). n.faults) v in
    let failed = ap (λ (n : PartsValue). n.log.faults) c.free_rows.ensures ∙ ap (λ (n : PartsValue). n.log.faults) c.settle_rows.ensures in
    let told =
    ap (λ (t : Telling). t.dids) c.tell.ensures
    ∙ ap (λ (ds : List Did). ds ++ did.Hardened channel (notes.Resolved unit commit operator) ∷ [])
    (ap (λ (t : Telling). t.dids) c.tell_rows.ensures
    ∙ ap (λ (ds : List Did). ds ++ map (settle_did commit) q.ends.rows.rows) c.take_room.ensures.dids
    ∙ ap (λ (n : ChannelEnds). map (settle_did commit) n.rows.rows) ends)
    in
    let after : ManagerValue = record { plain = plain_of new; delta = c.tell.new.self.dids; stopped = c.core.inside.stopped; faults = new.log.faults } in
    subst (λ (s : Step Never (Unit {0})). MeetsOrWants (manager_of c.args.core.now) s (Ok nothing) after) (sym step)
    (wrote_as Never Anywhere (manager_of c.args.core.now) after nothing nothing r (settled_changes commit channel old) (settled_told commit operator channel unit rows) refl done told (ap (λ (n : CoreValue). n.stopped) v)
    (omega (arith, had_, failed, w.log.later))
    (λ some. let here : 0 < y.log.armed = omega (arith, armed, some) in let most = w.log.calls.1 here in omega (arith, armed, most)))

pub returns-clause-told : goal.returns-clause-told
returns-clause-told g c =
    let v = c.core.view_is ∙ c.begin_call.ensures in
    let plain = ap (λ (w : CoreValue). w.plain) v in
    let x : PartsValue = c.core.inside.parts in
    let k : PartsValue = c.list_rows.new.parts in
    let up = mode_up (frozen_of x) x.mode (ap (λ (p : Plain). is_up p.running) plain ∙ c.requires.up) in
    let more = listed_more x k c.list_rows.ensures.same c.list_rows.ensures.room in
    let y : PartsValue = c.draw_if.new.parts in
    let channel = c.args.channel.now in
    let had : Bool = c.has_doubt-had.result in
    let f : IsSettling had channel x k y = record { up = up; tied = c.core.invariant; more = more; drawn = c.draw_if.ensures; doubt = c.has_doubt-had.ensures } in
    let p : Plain = c.args.core.now.plain in
    let unit = c.args.unit.now in
    let commit = c.args.commit in
    let operator = c.args.operator in
    let bytes : List ℕ = c.args.bytes.now in
    let rows : List Remove = y.ends.rows.rows in
    let r : LogRecord = records.Resolved channel unit commit operator in
    let side : SenderSide = c.kept_settled-kept.result in
    let sided = c.kept_settled-kept.ensures ∙ c.settled_side-side.ensures in
    let named : side.channel ≡ channel = ap (λ (s : SenderSide). s.channel) sided in
    let settled : side.hardened.in_doubt ≡ None = ap (λ (s : SenderSide). s.hardened.in_doubt) sided ∙ settled_none c.args.commit (sender_or (sender_data c.args.channel.now (plain_of c.draw_if.new.parts))) in
    let e : ChannelEnds = with_senders (set_sender side y.ends.senders) y.ends in
    let z : PartsValue = c.write_settled.new.parts in
    let m = settling_aside had channel x k y f in
    let write = writes.Settled channel unit commit operator rows in
    let old : SenderData = sender_or (sender_data channel p) in
    let rowed : rows ≡ k.ends.rows.rows = ap (λ (n : ChannelEnds). n.rows.rows) (drawn_ends had k y c.draw_if.ensures) in
    let all_rows : rows ≡ held_rows (holders.Batch channel) p = rowed ∙ c.in-Ok.ensures.rows ∙ ap (λ (q : Plain). held_rows (holders.Batch channel) q) plain in
    let step = settles_as commit operator channel unit rows old p all_rows refl in
    let nothing : Unit {0} = tt in
    let w = c.in-Ok-write_settled.ensures.written.1 in
    let q : PartsValue = c.settle_rows.new.parts in
    let before = c.in-Ok-write_settled.before in
    let stood : before ≡ old_sender side.channel y.ends = c.in-Ok-write_settled.ensures.written.0 in
    let ends : q.ends ≡ e = ap (λ (n : PartsValue). n.ends) c.settle_rows.ensures ∙ ap (λ (n : PartsValue). n.ends) w.same in
    let drawn : y.ends ≡ k.ends = drawn_ends had k y c.draw_if.ensures in
    let new : PartsValue = c.free_rows.new.parts in
    let after : CoreValue = record { plain = plain_of new; delta = c.tell.new.self.dids; stopped = c.core.inside.stopped; faults = new.log.faults; log = bodies_in new.log } in
    writes_as c.args.core.now after (harden channel (notes.Resolved unit commit operator) p) (Do nothing (settled_part commit operator channel unit rows old ∷ [])) (Ok nothing) step
    (ap (λ (n : PartsValue). bodies_in n.log) c.free_rows.ensures ∙ ap (λ (n : PartsValue). bodies_in n.log) c.settle_rows.ensures ∙ hardened_bodies r bytes e y z c.requires.bytes w ∙ ap (behind_record (Some r)) (aside_bodies x y m ∙ ap (λ (n : CoreValue). n.log) v), (c.requires.size.1, tt))
