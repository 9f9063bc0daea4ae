use Rattle.std.proofs.Common.{◌≡◌, ℕ, ◌+◌, ◌<◌, ◌∙◌, sym, ap, subst, refl, arith, true}
use Rattle.std.specs.Prelude.{List, [], ◌∷◌, ◌++◌, IsSome, Some, Err}
use Rattle.mq_base.specs.Outside.{Rose}
use Rattle.mq_disk.specs.declared.cutter.Stop.{Stop}
use Rattle.mq_log.specs.Force.{Stops}
use Rattle.mq_calls.specs.declared.deltas.Did.TheVariants as did
use Rattle.mq_calls.specs.declared.records.LogRecord.TheVariants as records
use Rattle.mq_calls.specs.Words.{ManagerValue, Plain, Ident, Reason, local_of, is_up, need, freeze, logged}
use Rattle.mq_calls.specs.declared.deltas.Did.{Did}
use Rattle.mq_calls.specs.declared.agents.AgentStop.{AgentStop}
use Rattle.mq_calls.specs.declared.records.LogRecord.{LogRecord}
use Rattle.mq_agents.specs.from_core.Counting.{CanCount}
use Rattle.mq_spec_manager.specs.Agents.{HasFreeRow}
use Rattle.mq_agents.specs.from_unit.Told.{Telling}
use Rattle.mq_agents.specs.from_core.Views.{PartsValue, plain_of, frozen_of}
use Rattle.mq_agents.specs.from_core.Ties.{Tied, IsReady, mode_is_up}
use Rattle.mq_agents.specs.from_core.Placing.{put_in_place}
use Rattle.mq_agents.specs.from_core.Values.{CoreValue, manager_of, bodies_in, behind_record, pending_record}
use Rattle.mq_agents.proofs.from_core.MeetLaws.{mode_up}
use Rattle.mq_agents.proofs.from_core.WriteLaws.{roomier_bodies, expected_bodies, forced_bodies, stopped_bodies, placed_log}
use Rattle.mq_agents.proofs.from_core.PutLaws.{tied_roomier, roomier_view, placed_faults}
use Rattle.mq_agents.specs.Ends.{halt_of, stopped_agent}
use Rattle.mq_agents.specs.Removing.{removed_one}
use Rattle.mq_agents.proofs.WriteLaws.{halt_stopped}
use Rattle.mq_moves.proofs.MoveLaws.{moved_note, move_forced, move_ready, move_tied, moved_seen, moved_on, forced_moves, forced_told, stopped_moves, stopped_told, move_stopped_view, move_stopped_tied, need_moved, short_moved}
use Rattle.mq_agents.specs.from_core.Forced.{given_back}
use Rattle.mq_moves.proofs.moving.move_forced.Goals as goal

taken_out : List ℕ → Ident → PartsValue → PartsValue
taken_out from ident q = removed_one from ident q

pub invariant_of-core : goal.invariant_of-core
invariant_of-core g c = tied_roomier c.core.inside.parts c.make_put_room.new.parts c.in-Err.ensures.err c.core.invariant

pub returns-in-Err : goal.returns-in-Err
returns-in-Err g c =
    let v = c.core.view_is ∙ c.begin_call.ensures in
    let h = c.in-Err.ensures.err in
    let plain = roomier_view c.core.inside.parts c.make_put_room.new.parts h ∙ ap (λ (w : CoreValue). w.plain) v in
    let told = c.make_put_room.ensures.dids ∙ ap (λ (w : CoreValue). w.delta) v in
    let faults = ap (λ (x : PartsValue). x.log.faults) h.same ∙ ap (λ (w : CoreValue). w.faults) v in
    record {
      meets =
          λ i. record { plain = plain i; delta = told i; stopped = (v i).stopped; faults = faults i };
      told =
          roomier_bodies c.core.inside.parts c.make_put_room.new.parts c.in-Err.ensures.err ∙ ap (λ (w : CoreValue). w.log) (c.core.view_is ∙ c.begin_call.ensures);
    }

pub force_moved-requires-clause-live : goal.force_moved-requires-clause-live
force_moved-requires-clause-live g c =
    let plain = ap (λ (w : CoreValue). w.plain) (c.core.view_is ∙ c.begin_call.ensures) in
    let x : PartsValue = c.core.inside.parts in
    let up = mode_up (frozen_of x) x.mode (ap (λ (p : Plain). is_up p.running) plain ∙ c.requires.may.up) in
    ap (λ (z : PartsValue). z.log.live) c.in-Ok.ensures.ok.same ∙ (c.core.invariant.up up).live

pub force_moved-requires-clause-room : goal.force_moved-requires-clause-room
force_moved-requires-clause-room g c = let e = need_moved c.args.from.now c.args.to.now c.args.message in omega (arith, e, c.put_bytes-need.ensures, c.in-Ok.ensures.ok.log)

pub force_moved-requires-clause-body : goal.force_moved-requires-clause-body
force_moved-requires-clause-body g c = let e = need_moved c.args.from.now c.args.to.now c.args.message in omega (arith, e, c.put_bytes-need.ensures, c.in-Ok.ensures.ok.body)

pub force_moved-requires-clause-small : goal.force_moved-requires-clause-small
force_moved-requires-clause-small g c = let short = short_moved c.args.from.now c.args.to.now c.args.message c.requires.kept in omega (arith, short)

pub invariant_of-core-in-Err-force_moved : goal.invariant_of-core-in-Err-force_moved
invariant_of-core-in-Err-force_moved g c =
    let v = c.core.view_is ∙ c.begin_call.ensures in
    let plain = ap (λ (w : CoreValue). w.plain) v in
    let x : PartsValue = c.core.inside.parts in
    let y : PartsValue = c.make_put_room.new.parts in
    let z : PartsValue = c.force_moved.new.parts in
    let from = c.args.from.now in
    let to = c.args.to.now in
    let m = c.args.message in
    let ident : Ident = m.ident in
    let r : LogRecord = records.Moved from ident to m in
    let n = 71 + c.put_bytes-need.result in
    let needs : n ≡ need r = let e = need_moved from to m in omega (arith, e, c.put_bytes-need.ensures) in
    let e = c.in-Ok.ensures.ok in
    subst Tied (sym c.give_move_up.ensures) (move_stopped_tied from c.args.target.now c.args.bare to m n r c.in-Err-force_moved.stop x y z e c.in-Err-force_moved.ensures c.core.invariant)

pub returns-in-Err-force_moved : goal.returns-in-Err-force_moved
returns-in-Err-force_moved g c =
    let v = c.core.view_is ∙ c.begin_call.ensures in
    let plain = ap (λ (w : CoreValue). w.plain) v in
    let x : PartsValue = c.core.inside.parts in
    let y : PartsValue = c.make_put_room.new.parts in
    let z : PartsValue = c.force_moved.new.parts in
    let from = c.args.from.now in
    let to = c.args.to.now in
    let m = c.args.message in
    let ident : Ident = m.ident in
    let r : LogRecord = records.Moved from ident to m in
    let n = 71 + c.put_bytes-need.result in
    let needs : n ≡ need r = let e = need_moved from to m in omega (arith, e, c.put_bytes-need.ensures) in
    let e = c.in-Ok.ensures.ok in
    let stop = c.in-Err-force_moved.stop in
    let f = c.in-Err-force_moved.ensures in
    let target = c.args.target.now in
    let bare = c.args.bare in
    let u : PartsValue = c.give_move_up.new.parts in
    let is =
    ap plain_of c.give_move_up.ensures ∙ move_stopped_view from target bare to m n r stop x y z (mode_up (frozen_of x) x.mode (ap (λ (p : Plain). is_up p.running) plain ∙ c.requires.may.up)) c.requires.kept e f
    ∙ ap (λ (p : Plain). freeze (moved_note from target bare to m) z.log.armed p) plain
    in
    let down = ap (λ (q : PartsValue). q.log.armed) c.give_move_up.ensures in
    let failed = ap (λ (q : PartsValue). q.log.faults) c.give_move_up.ensures in
    let armed : y.log.armed ≡ c.args.core.now.plain.log.armed = ap (λ (q : PartsValue). q.log.armed) e.same ∙ ap (λ (p : Plain). p.log.armed) plain in
    let faults : y.log.faults ≡ c.args.core.now.faults = ap (λ (q : PartsValue). q.log.faults) e.same ∙ ap (λ (w : CoreValue). w.faults) v in
    let halt : halt_of {F = Reason} c.agent_stop-agent.result ≡ halt_of (stopped_agent stop) = ap (λ (a : AgentStop). halt_of {F = Reason} a) c.agent_stop-agent.ensures in
    let new : ManagerValue = record { plain = plain_of u; delta = c.make_put_room.new.effects.dids; stopped = Some stop; faults = u.log.faults } in
    let both : CoreValue = record { plain = plain_of u; delta = c.make_put_room.new.effects.dids; stopped = Some stop; faults = u.log.faults; log = bodies_in u.log } in
    record {
      meets =
          stopped_moves (manager_of c.args.core.now) new from target bare to m stop (halt_of c.agent_stop-agent.result) (halt ∙ halt_stopped stop) c.requires.kept
          (subst (λ (k : ℕ). plain_of u ≡ freeze (moved_note from target bare to m) k c.args.core.now.plain) (sym down) is)
          (c.make_put_room.ensures.dids ∙ ap (λ (w : CoreValue). w.delta) v) refl
          (subst (λ (k : ℕ). Stops k (Err stop) u.log.armed) armed (subst (λ (k : ℕ). Stops y.log.armed (Err stop) k) (sym down) f.ends))
          (omega (arith, faults, failed, f.later))
          (λ d. subst (λ (k : ℕ). Rose k u.log.faults) faults (subst (λ (k : ℕ). Rose y.log.faults k) (sym failed) (f.disk (ap (λ (s : Stop). Err s) d))));
      told =
          stopped_told c.args.core.now both from target bare to m stop (halt_of c.agent_stop-agent.result) (halt ∙ halt_stopped stop) c.requires.kept f.fits
          (subst (λ (k : ℕ). plain_of u ≡ freeze (moved_note from target bare to m) k c.args.core.now.plain) (sym down) is)
          (ap (λ (q : PartsValue). bodies_in q.log) c.give_move_up.ensures ∙ stopped_bodies r y z stop f ∙ ap (pending_record (Some r)) (expected_bodies to n x y e ∙ ap (λ (w : CoreValue). w.log) v));
    }

pub return_room-requires : goal.return_room-requires
return_room-requires g c = omega (arith, c.in-Ok.ensures.ok.body, c.in-Ok-force_moved.ensures.body)

pub swap_rows-requires : goal.swap_rows-requires
unfolding taken_out
swap_rows-requires g c =
    let v = c.core.view_is ∙ c.begin_call.ensures in
    let plain = ap (λ (w : CoreValue). w.plain) v in
    let x : PartsValue = c.core.inside.parts in
    let y : PartsValue = c.make_put_room.new.parts in
    let z : PartsValue = c.force_moved.new.parts in
    let from = c.args.from.now in
    let to = c.args.to.now in
    let m = c.args.message in
    let ident : Ident = m.ident in
    let r : LogRecord = records.Moved from ident to m in
    let n = 71 + c.put_bytes-need.result in
    let needs : n ≡ need r = let e = need_moved from to m in omega (arith, e, c.put_bytes-need.ensures) in
    let e = c.in-Ok.ensures.ok in
    let f = c.in-Ok-force_moved.ensures in
    let there = subst (λ (p : Plain). IsSome (local_of to p.definitions)) (sym plain) c.requires.may.there in
    let low = subst CanCount (sym plain) c.requires.may.low in
    let h = subst (HasFreeRow from ident) (sym plain) c.requires.may.row in
    let w : PartsValue = removed_one from ident (given_back n z) in
    let back : removed_one from ident c.return_room.new.parts ≡ w = ap (λ (q : PartsValue). taken_out from ident q) c.return_room.ensures in
    let way = move_forced from ident to n r x y z needs e f c.core.invariant in
    let ready = move_ready from ident to m h.row x w there h.found refl way c.core.invariant low in
    subst (IsReady to m) (sym back) ready

pub invariant_of-core-2 : goal.invariant_of-core-2
unfolding taken_out
invariant_of-core-2 g c =
    let v = c.core.view_is ∙ c.begin_call.ensures in
    let plain = ap (λ (w : CoreValue). w.plain) v in
    let x : PartsValue = c.core.inside.parts in
    let y : PartsValue = c.make_put_room.new.parts in
    let z : PartsValue = c.force_moved.new.parts in
    let from = c.args.from.now in
    let to = c.args.to.now in
    let m = c.args.message in
    let ident : Ident = m.ident in
    let r : LogRecord = records.Moved from ident to m in
    let n = 71 + c.put_bytes-need.result in
    let needs : n ≡ need r = let e = need_moved from to m in omega (arith, e, c.put_bytes-need.ensures) in
    let e = c.in-Ok.ensures.ok in
    let f = c.in-Ok-force_moved.ensures in
    let there = subst (λ (p : Plain). IsSome (local_of to p.definitions)) (sym plain) c.requires.may.there in
    let low = subst CanCount (sym plain) c.requires.may.low in
    let h = subst (HasFreeRow from ident) (sym plain) c.requires.may.row in
    let w : PartsValue = removed_one from ident (given_back n z) in
    let back : removed_one from ident c.return_room.new.parts ≡ w = ap (λ (q : PartsValue). taken_out from ident q) c.return_room.ensures in
    let way = move_forced from ident to n r x y z needs e f c.core.invariant in
    let ready = move_ready from ident to m h.row x w there h.found refl way c.core.invariant low in
    subst Tied (sym (c.swap_rows.ensures ∙ ap (put_in_place to m) back)) (move_tied from ident to m h.row x w there h.found refl way c.core.invariant low)

pub returns : goal.returns
unfolding taken_out
returns g c =
    let v = c.core.view_is ∙ c.begin_call.ensures in
    let plain = ap (λ (w : CoreValue). w.plain) v in
    let x : PartsValue = c.core.inside.parts in
    let y : PartsValue = c.make_put_room.new.parts in
    let z : PartsValue = c.force_moved.new.parts in
    let from = c.args.from.now in
    let to = c.args.to.now in
    let m = c.args.message in
    let ident : Ident = m.ident in
    let r : LogRecord = records.Moved from ident to m in
    let n = 71 + c.put_bytes-need.result in
    let needs : n ≡ need r = let e = need_moved from to m in omega (arith, e, c.put_bytes-need.ensures) in
    let e = c.in-Ok.ensures.ok in
    let f = c.in-Ok-force_moved.ensures in
    let there = subst (λ (p : Plain). IsSome (local_of to p.definitions)) (sym plain) c.requires.may.there in
    let low = subst CanCount (sym plain) c.requires.may.low in
    let h = subst (HasFreeRow from ident) (sym plain) c.requires.may.row in
    let w : PartsValue = removed_one from ident (given_back n z) in
    let back : removed_one from ident c.return_room.new.parts ≡ w = ap (λ (q : PartsValue). taken_out from ident q) c.return_room.ensures in
    let way = move_forced from ident to n r x y z needs e f c.core.invariant in
    let ready = move_ready from ident to m h.row x w there h.found refl way c.core.invariant low in
    let up = mode_up (frozen_of x) x.mode (ap (λ (p : Plain). is_up p.running) plain ∙ c.requires.may.up) in
    let still : mode_is_up z.mode ≡ true = ap (λ (q : PartsValue). mode_is_up q.mode) (f.same ∙ refl) ∙ ap (λ (q : PartsValue). mode_is_up q.mode) e.same ∙ up in
    let same = c.swap_rows.ensures ∙ ap (put_in_place to m) back in
    let done = ap plain_of same ∙ moved_seen from ident to m (given_back n z) (logged (Some r) c.args.core.now.plain) still ready (moved_on to n n r x y z c.args.core.now.plain up e f plain) in
    let told =
    ap (λ (t : Telling). t.dids) c.tell.ensures
    ∙ ap (λ (ds : List Did). ds ++ did.Moved from ident to c.args.target.now c.args.bare ∷ []) (c.make_put_room.ensures.dids ∙ ap (λ (w : CoreValue). w.delta) v)
    in
    let settled = ap (λ (q : PartsValue). q.log.faults) same ∙ placed_faults to m w in
    let armed : y.log.armed ≡ c.args.core.now.plain.log.armed = ap (λ (q : PartsValue). q.log.armed) e.same ∙ ap (λ (p : Plain). p.log.armed) plain in
    let faults : y.log.faults ≡ c.args.core.now.faults = ap (λ (q : PartsValue). q.log.faults) e.same ∙ ap (λ (w : CoreValue). w.faults) v in
    let new : ManagerValue = record { plain = plain_of c.swap_rows.new.parts; delta = c.tell.new.self.dids; stopped = c.core.inside.stopped; faults = c.swap_rows.new.parts.log.faults } in
    let both : CoreValue = record { plain = plain_of c.swap_rows.new.parts; delta = c.tell.new.self.dids; stopped = c.core.inside.stopped; faults = c.swap_rows.new.parts.log.faults; log = bodies_in c.swap_rows.new.parts.log } in
    record {
      meets =
          forced_moves (manager_of c.args.core.now) new from c.args.target.now c.args.bare to m c.requires.kept done told (ap (λ (w : CoreValue). w.stopped) v)
          (omega (arith, faults, settled, f.later)) (λ some. let here : 0 < y.log.armed = omega (arith, armed, some) in let more = f.ends.1 here in omega (arith, armed, more));
      told =
          forced_told c.args.core.now both from c.args.target.now c.args.bare to m c.requires.kept f.fits
          (ap (λ (q : PartsValue). bodies_in q.log) (c.swap_rows.ensures ∙ ap (put_in_place to m) back) ∙ ap bodies_in (placed_log to m w)
          ∙ forced_bodies r y z f ∙ ap (behind_record (Some r)) (expected_bodies to n x y e ∙ ap (λ (q : CoreValue). q.log) v));
    }
