use Rattle.std.proofs.Common.{◌≡◌, ◌+◌, ◌<◌, ◌≤◌, ◌^◌, sym, ap, subst, refl, ◌∙◌, arith, length}
use Rattle.std.specs.Prelude.{Ok, Err, ◌++◌}
use Rattle.mq_calls.specs.Words.{Plain, connection_at, is_up, apply_all, logged, unit_need}
use Rattle.mq_calls.specs.declared.state.Connection.{Connection}
use Rattle.mq_core.specs.Counting.{CanCount}
use Rattle.mq_spec_manager.specs.Units.{adds_of, removes_of, record_of, commit_delta, commit_changes}
use Rattle.mq_core.specs.Views.{PartsValue, plain_of, frozen_of}
use Rattle.mq_core.specs.Writes.{end_changes}
use Rattle.mq_core.specs.Ties.{Tied, mode_is_up}
use Rattle.mq_core.proofs.MeetLaws.{some_is, if_some, some_of, mode_up}
use Rattle.mq_core.proofs.SeatLaws.{number_is}
use Rattle.mq_ends.specs.Ends.{IfForced, HasRoom, AreReady, ended_unit, settled}
use Rattle.mq_core.specs.Placing.{take_each}
use Rattle.mq_ends.proofs.EndLaws.{settled_bodies, wrote_view, found_then, commit_ready, commit_tied, commit_room, commit_mode, settled_faults}
use Rattle.mq_ends.proofs.LateLaws.{settled_view}
use Rattle.mq_ends.proofs.CommitLaws.{wrote_bodies, wrote_record, commit_writes, commit_breaks, unit_low, commit_done, commit_stopped, tied_stopped}
use Rattle.mq_core.specs.Values.{CoreValue, manager_of, bodies_in, behind_record}
use Rattle.mq_ends.proofs.ending.commit.Goals as goal

pub force_unit-requires-clause-room : goal.force_unit-requires-clause-room
force_unit-requires-clause-room g c =
    let x : PartsValue = c.core.inside.parts in
    let plain = ap (λ (w : CoreValue). w.plain) (c.core.view_is ∙ c.begin_call.ensures) in
    let live = some_is _ c.requires.live in
    let found = ap (λ (p : Plain). connection_at c.args.number p.connections) plain ∙ live.1 in
    let up = mode_up (frozen_of x) x.mode (ap (λ (p : Plain). is_up p.running) plain ∙ c.requires.up) in
    let low = unit_low c.args.number live.0 x found up c.core.invariant in
    let room = (c.core.invariant.up up).room in
    some_of (λ (d : Connection). unit_need d.unit ≤ x.log.room) _ live.0 found (omega (arith, low.0, room))

pub force_unit-requires-clause-body : goal.force_unit-requires-clause-body
force_unit-requires-clause-body g c =
    let x : PartsValue = c.core.inside.parts in
    let plain = ap (λ (w : CoreValue). w.plain) (c.core.view_is ∙ c.begin_call.ensures) in
    let live = some_is _ c.requires.live in
    let found = ap (λ (p : Plain). connection_at c.args.number p.connections) plain ∙ live.1 in
    let up = mode_up (frozen_of x) x.mode (ap (λ (p : Plain). is_up p.running) plain ∙ c.requires.up) in
    let low = unit_low c.args.number live.0 x found up c.core.invariant in
    let body = (c.core.invariant.up up).body in
    some_of (λ (d : Connection). unit_need d.unit ≤ x.body.room + length x.body.bytes) _ live.0 found (omega (arith, low.0, body))

pub force_unit-requires-clause-small : goal.force_unit-requires-clause-small
force_unit-requires-clause-small g c =
    let x : PartsValue = c.core.inside.parts in
    let plain = ap (λ (w : CoreValue). w.plain) (c.core.view_is ∙ c.begin_call.ensures) in
    let live = some_is _ c.requires.live in
    let found = ap (λ (p : Plain). connection_at c.args.number p.connections) plain ∙ live.1 in
    let up = mode_up (frozen_of x) x.mode (ap (λ (p : Plain). is_up p.running) plain ∙ c.requires.up) in
    some_of (λ (d : Connection). unit_need d.unit < 2 ^ 32) _ live.0 found (unit_low c.args.number live.0 x found up c.core.invariant).1

pub invariant_of-core : goal.invariant_of-core
invariant_of-core g c =
    let x : PartsValue = c.core.inside.parts in
    let y : PartsValue = c.force_unit.new.parts in
    let plain = ap (λ (w : CoreValue). w.plain) (c.core.view_is ∙ c.begin_call.ensures) in
    let live = some_is _ c.requires.live in
    let found = ap (λ (p : Plain). connection_at c.args.number p.connections) plain ∙ live.1 in
    let f = if_some (λ (d : Connection). IfForced (record_of (adds_of d.unit) (removes_of d.unit)) x (Err c.in-Err.stop) y) _ live.0 found c.in-Err.ensures in
    subst Tied (sym c.go_down_commit.ensures) (tied_stopped c.args.number c.args.ends (record_of (adds_of live.0.unit) (removes_of live.0.unit)) c.in-Err.stop x y f c.core.invariant)

pub returns-in-Err-clause-meets : goal.returns-in-Err-clause-meets
returns-in-Err-clause-meets g c =
    let v = c.core.view_is ∙ c.begin_call.ensures in
    let x : PartsValue = c.core.inside.parts in
    let y : PartsValue = c.force_unit.new.parts in
    let plain = ap (λ (w : CoreValue). w.plain) v in
    let live = some_is _ c.requires.live in
    let found = ap (λ (p : Plain). connection_at c.args.number p.connections) plain ∙ live.1 in
    let f = if_some (λ (d : Connection). IfForced (record_of (adds_of d.unit) (removes_of d.unit)) x (Err c.in-Err.stop) y) _ live.0 found c.in-Err.ensures in
    commit_stopped (manager_of c.args.core.now) _ c.args.number c.args.ends live.0 c.in-Err.stop x y (mode_up (frozen_of x) x.mode (ap (λ (p : Plain). is_up p.running) plain ∙ c.requires.up)) live.1 found plain (ap (λ (w : CoreValue). w.faults) v) f
    (ap plain_of c.go_down_commit.ensures) (ap (λ (w : CoreValue). w.delta) v) refl (ap (λ (z : PartsValue). z.log.faults) c.go_down_commit.ensures)

pub settle_unit-requires-clause-room : goal.settle_unit-requires-clause-room
settle_unit-requires-clause-room g c =
    let x : PartsValue = c.core.inside.parts in
    let y : PartsValue = c.force_unit.new.parts in
    let plain = ap (λ (w : CoreValue). w.plain) (c.core.view_is ∙ c.begin_call.ensures) in
    let live = some_is _ c.requires.live in
    let found = ap (λ (p : Plain). connection_at c.args.number p.connections) plain ∙ live.1 in
    let up = mode_up (frozen_of x) x.mode (ap (λ (p : Plain). is_up p.running) plain ∙ c.requires.up) in
    let f = if_some (λ (d : Connection). IfForced (record_of (adds_of d.unit) (removes_of d.unit)) x (Ok tt) y) _ live.0 found c.in-Ok.ensures in
    some_of (λ (d : Connection). HasRoom d y) _ live.0 (found_then c.args.number live.0 x y found f c.core.invariant) (commit_room c.args.number live.0 x y found f c.core.invariant up)

pub settle_unit-requires-clause-ready : goal.settle_unit-requires-clause-ready
settle_unit-requires-clause-ready g c =
    let x : PartsValue = c.core.inside.parts in
    let y : PartsValue = c.force_unit.new.parts in
    let plain = ap (λ (w : CoreValue). w.plain) (c.core.view_is ∙ c.begin_call.ensures) in
    let live = some_is _ c.requires.live in
    let found = ap (λ (p : Plain). connection_at c.args.number p.connections) plain ∙ live.1 in
    let f = if_some (λ (d : Connection). IfForced (record_of (adds_of d.unit) (removes_of d.unit)) x (Ok tt) y) _ live.0 found c.in-Ok.ensures in
    some_of (λ (d : Connection). AreReady d.unit (take_each d.unit (ended_unit c.args.number d y))) _ live.0 (found_then c.args.number live.0 x y found f c.core.invariant)
    (commit_ready c.args.number live.0 x y found f c.core.invariant (subst CanCount (sym plain) c.requires.low))

pub invariant_of-core-2 : goal.invariant_of-core-2
invariant_of-core-2 g c =
    let x : PartsValue = c.core.inside.parts in
    let y : PartsValue = c.force_unit.new.parts in
    let plain = ap (λ (w : CoreValue). w.plain) (c.core.view_is ∙ c.begin_call.ensures) in
    let live = some_is _ c.requires.live in
    let found = ap (λ (p : Plain). connection_at c.args.number p.connections) plain ∙ live.1 in
    let f = if_some (λ (d : Connection). IfForced (record_of (adds_of d.unit) (removes_of d.unit)) x (Ok tt) y) _ live.0 found c.in-Ok.ensures in
    let parts = if_some (λ (d : Connection). c.settle_unit.new.parts ≡ settled c.args.number c.args.ends d y) _ live.0 (found_then c.args.number live.0 x y found f c.core.invariant) c.settle_unit.ensures.parts in
    subst Tied (sym parts) (commit_tied c.args.number live.0 x y found f c.core.invariant c.args.ends c.settle_unit.ensures.rising (subst CanCount (sym plain) c.requires.low))

pub returns-clause-meets : goal.returns-clause-meets
returns-clause-meets g c =
    let v = c.core.view_is ∙ c.begin_call.ensures in
    let x : PartsValue = c.core.inside.parts in
    let y : PartsValue = c.force_unit.new.parts in
    let plain = ap (λ (w : CoreValue). w.plain) v in
    let live = some_is _ c.requires.live in
    let found = ap (λ (p : Plain). connection_at c.args.number p.connections) plain ∙ live.1 in
    let up = mode_up (frozen_of x) x.mode (ap (λ (p : Plain). is_up p.running) plain ∙ c.requires.up) in
    let o = record_of (adds_of live.0.unit) (removes_of live.0.unit) in
    let f = if_some (λ (d : Connection). IfForced (record_of (adds_of d.unit) (removes_of d.unit)) x (Ok tt) y) _ live.0 found c.in-Ok.ensures in
    let later = found_then c.args.number live.0 x y found f c.core.invariant in
    let parts = if_some (λ (d : Connection). c.settle_unit.new.parts ≡ settled c.args.number c.args.ends d y) _ live.0 later c.settle_unit.ensures.parts in
    let told = if_some (λ (d : Connection). c.settle_unit.result.dids ≡ commit_delta d) _ live.0 later c.settle_unit.ensures.told in
    let ready = commit_ready c.args.number live.0 x y found f c.core.invariant (subst CanCount (sym plain) c.requires.low) in
    commit_done (manager_of c.args.core.now) _ c.args.number c.args.ends live.0 x y live.1 plain (ap (λ (w : CoreValue). w.faults) v) f
    (ap plain_of parts
    ∙ settled_view c.args.number c.args.ends live.0 y (ap mode_is_up (commit_mode c.args.number live.0 x y found f c.core.invariant) ∙ up) (number_is c.args.number y.desk.live live.0 later) ready
    ∙ ap (apply_all (commit_changes live.0 ++ end_changes c.args.ends live.0.number)) (wrote_view o x y up f ∙ ap (logged o) plain))
    told (ap (λ (w : CoreValue). w.stopped) v) (ap (λ (z : PartsValue). z.log.faults) parts ∙ settled_faults c.args.number c.args.ends live.0 y)

pub returns-in-Err-clause-told : goal.returns-in-Err-clause-told
returns-in-Err-clause-told g c =
    let v = c.core.view_is ∙ c.begin_call.ensures in
    let x : PartsValue = c.core.inside.parts in
    let y : PartsValue = c.force_unit.new.parts in
    let plain = ap (λ (w : CoreValue). w.plain) v in
    let live = some_is _ c.requires.live in
    let found = ap (λ (p : Plain). connection_at c.args.number p.connections) plain ∙ live.1 in
    let f = if_some (λ (d : Connection). IfForced (record_of (adds_of d.unit) (removes_of d.unit)) x (Err c.in-Err.stop) y) _ live.0 found c.in-Err.ensures in
    commit_breaks c.args.core.now _ c.args.number c.args.ends live.0 c.in-Err.stop x y (mode_up (frozen_of x) x.mode (ap (λ (p : Plain). is_up p.running) plain ∙ c.requires.up)) live.1 found plain (ap (λ (w : CoreValue). w.log) v) f
    (ap plain_of c.go_down_commit.ensures) (ap (λ (z : PartsValue). bodies_in z.log) c.go_down_commit.ensures)

pub returns-clause-told : goal.returns-clause-told
returns-clause-told g c =
    let v = c.core.view_is ∙ c.begin_call.ensures in
    let x : PartsValue = c.core.inside.parts in
    let y : PartsValue = c.force_unit.new.parts in
    let live = some_is _ c.requires.live in
    let found = ap (λ (w : CoreValue). connection_at c.args.number w.plain.connections) v ∙ live.1 in
    let o = record_of (adds_of live.0.unit) (removes_of live.0.unit) in
    let f = if_some (λ (d : Connection). IfForced (record_of (adds_of d.unit) (removes_of d.unit)) x (Ok tt) y) _ live.0 found c.in-Ok.ensures in
    let later = found_then c.args.number live.0 x y found f c.core.invariant in
    let parts = if_some (λ (d : Connection). c.settle_unit.new.parts ≡ settled c.args.number c.args.ends d y) _ live.0 later c.settle_unit.ensures.parts in
    commit_writes c.args.core.now _ c.args.number c.args.ends live.0 live.1 (wrote_record o x y f)
    (ap (λ (z : PartsValue). bodies_in z.log) parts ∙ settled_bodies c.args.number c.args.ends live.0 y ∙ wrote_bodies o x y f ∙ ap (behind_record o) (ap (λ (w : CoreValue). w.log) v))
