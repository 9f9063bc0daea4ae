use Rattle.std.proofs.Common.{◌≡◌, ℕ, ◌+◌, ◌<◌, ◌∙◌, sym, ap, subst, refl, arith}
use Rattle.std.specs.Prelude.{List, length, Ok, Err, Some}
use Rattle.mq_base.specs.Outside.{Rose}
use Rattle.mq_disk.specs.declared.cutter.Stop.{Stop}
use Rattle.mq_log.specs.Force.{Stops}
use Rattle.mq_calls.specs.declared.records.LogRecord.TheVariants as records
use Rattle.mq_calls.specs.Words.{ManagerValue, Plain, MeetsOrWants, is_up, need, freeze, logged, note_of, apply_all}
use Rattle.mq_spec_manager.specs.Commands.{object_part}
use Rattle.mq_law_manager.specs.Facts.{AreOnce}
use Rattle.mq_core.specs.Views.{PartsValue, plain_of, frozen_of}
use Rattle.mq_core.specs.Ties.{Tied}
use Rattle.mq_core.proofs.MeetLaws.{mode_up}
use Rattle.mq_steer.specs.Altered.{CanChange, change_step}
use Rattle.mq_steer.proofs.ChangeLaws.{tied_forced, can_alter, change_tied, change_view, change_frozen, rooms_bodies, change_down, change_done, change_stopped}
use Rattle.mq_core.specs.Values.{CoreValue, manager_of, bodies_in, behind_record, pending_record}
use Rattle.mq_core.proofs.WriteLaws.{forced_bodies, stopped_bodies}
use Rattle.mq_steer.proofs.commands.write_change.Goals as goal

plain_is : {v w : CoreValue} → v ≡ w → v.plain ≡ w.plain
plain_is e = ap (λ (x : CoreValue). x.plain) e

pub alter-requires-clause-tied : goal.alter-requires-clause-tied
alter-requires-clause-tied g c =
    let text = ap length c.requires.text in
    let e : need (records.Objects c.args.planned.change) ≡ 11 + length c.args.text.now = omega (arith, text) in
    tied_forced (records.Objects c.args.planned.change) (length c.args.text.now) c.core.inside.parts c.make_room.new.parts c.force_change.new.parts e c.in-Ok.ensures.ok c.in-Ok-force_change.ensures c.core.invariant

pub alter-requires-clause-can : goal.alter-requires-clause-can
alter-requires-clause-can g c =
    let plain = plain_is (c.core.view_is ∙ c.begin_call.ensures) in
    let can = subst (λ (p : Plain). CanChange c.args.planned.change c.args.planned.reroutes c.args.planned.switches_on p) (sym plain) c.requires.can in
    can_alter c.args.planned c.core.inside.parts c.make_room.new.parts c.force_change.new.parts c.in-Ok.ensures.ok.rooms c.in-Ok-force_change.ensures can

pub alter-requires-clause-defs : goal.alter-requires-clause-defs
alter-requires-clause-defs g c =
    let same = ap (λ (w : PartsValue). w.defs.room) c.in-Ok-force_change.ensures.same in
    omega (arith, same, c.in-Ok.ensures.ok.defs)

pub alter-requires-clause-queues : goal.alter-requires-clause-queues
alter-requires-clause-queues g c =
    let same = ap (λ (w : PartsValue). w.queues.room) c.in-Ok-force_change.ensures.same in
    omega (arith, same, c.in-Ok.ensures.ok.queues)

pub invariant_of-core-in-Err-force_change : goal.invariant_of-core-in-Err-force_change
invariant_of-core-in-Err-force_change g c =
    subst Tied (sym c.go_down.ensures)
    (change_down c.args.planned c.in-Err-force_change.stop c.core.inside.parts c.make_room.new.parts c.force_change.new.parts c.in-Ok.ensures.ok.rooms c.in-Err-force_change.ensures c.core.invariant)

pub returns-in-Err-force_change-clause-meets : goal.returns-in-Err-force_change-clause-meets
returns-in-Err-force_change-clause-meets g c =
    let v = c.core.view_is ∙ c.begin_call.ensures in
    let plain = plain_is v in
    let x : PartsValue = c.core.inside.parts in
    let y : PartsValue = c.make_room.new.parts in
    let z : PartsValue = c.force_change.new.parts in
    let f = c.in-Err-force_change.ensures in
    let rooms = c.in-Ok.ensures.ok.rooms in
    let is = ap plain_of c.go_down.ensures ∙ change_frozen c.args.planned c.in-Err-force_change.stop x y z (mode_up (frozen_of x) x.mode (ap (λ (p : Plain). is_up p.running) plain ∙ c.requires.up)) rooms f
    ∙ ap (λ (p : Plain). freeze (note_of (object_part c.args.planned p.definitions) (object_part c.args.planned p.definitions).forced) z.log.armed p) plain in
    let down = ap (λ (w : PartsValue). w.log.armed) c.go_down.ensures in
    let failed = ap (λ (w : PartsValue). w.log.faults) c.go_down.ensures in
    let armed : y.log.armed ≡ c.args.core.now.plain.log.armed = ap (λ (w : PartsValue). w.log.armed) rooms.same ∙ ap (λ (p : Plain). p.log.armed) plain in
    let faults : y.log.faults ≡ c.args.core.now.faults = ap (λ (w : PartsValue). w.log.faults) rooms.same ∙ ap (λ (w : CoreValue). w.faults) v in
    change_stopped c.args.planned (manager_of c.args.core.now) _ c.in-Err-force_change.stop
    (subst (λ (n : ℕ). plain_of c.go_down.new.parts ≡ freeze (note_of (object_part c.args.planned c.args.core.now.plain.definitions) (object_part c.args.planned c.args.core.now.plain.definitions).forced) n c.args.core.now.plain) (sym down) is)
    (ap (λ (w : CoreValue). w.delta) v) refl
    (subst (λ (n : ℕ). Stops n (Err c.in-Err-force_change.stop) c.go_down.new.parts.log.armed) armed (subst (λ (n : ℕ). Stops y.log.armed (Err c.in-Err-force_change.stop) n) (sym down) f.ends))
    (omega (arith, faults, failed, f.later))
    (λ e. subst (λ (n : ℕ). Rose n c.go_down.new.parts.log.faults) faults (subst (λ (n : ℕ). Rose y.log.faults n) (sym failed) (f.disk (ap (λ (s : Stop). Err s) e))))

pub invariant_of-core-2 : goal.invariant_of-core-2
invariant_of-core-2 g c =
    let plain = plain_is (c.core.view_is ∙ c.begin_call.ensures) in
    let text = ap length c.requires.text in
    let e : need (records.Objects c.args.planned.change) ≡ 11 + length c.args.text.now = omega (arith, text) in
    let can = subst (λ (p : Plain). CanChange c.args.planned.change c.args.planned.reroutes c.args.planned.switches_on p) (sym plain) c.requires.can in
    let once = subst (λ (p : Plain). AreOnce p.definitions.objects) (sym plain) c.requires.once in
    subst Tied (sym c.alter.ensures)
    (change_tied c.args.planned (length c.args.text.now) _ _ c.core.inside.parts c.make_room.new.parts c.force_change.new.parts e c.in-Ok.ensures.ok c.in-Ok-force_change.ensures c.core.invariant once can)

pub returns-clause-meets : goal.returns-clause-meets
returns-clause-meets g c =
    let v = c.core.view_is ∙ c.begin_call.ensures in
    let plain = plain_is v in
    let x : PartsValue = c.core.inside.parts in
    let y : PartsValue = c.make_room.new.parts in
    let z : PartsValue = c.force_change.new.parts in
    let f = c.in-Ok-force_change.ensures in
    let rooms = c.in-Ok.ensures.ok.rooms in
    let text = ap length c.requires.text in
    let e : need (records.Objects c.args.planned.change) ≡ 11 + length c.args.text.now = omega (arith, text) in
    let can = subst (λ (p : Plain). CanChange c.args.planned.change c.args.planned.reroutes c.args.planned.switches_on p) (sym plain) c.requires.can in
    let up = mode_up (frozen_of x) x.mode (ap (λ (p : Plain). is_up p.running) plain ∙ c.requires.up) in
    let done = ap plain_of c.alter.ensures
    ∙ change_view c.args.planned (length c.args.text.now) c.alter.new.parts.defs.room c.alter.new.parts.queues.room x y z up e c.in-Ok.ensures.ok f c.core.invariant can
    ∙ ap (λ (p : Plain). apply_all (object_part c.args.planned p.definitions).changes (logged (Some (records.Objects c.args.planned.change)) p)) plain in
    let settled : c.alter.new.parts.log.faults ≡ z.log.faults = ap (λ (w : PartsValue). w.log.faults) c.alter.ensures in
    let armed : y.log.armed ≡ c.args.core.now.plain.log.armed = ap (λ (w : PartsValue). w.log.armed) rooms.same ∙ ap (λ (p : Plain). p.log.armed) plain in
    let faults : y.log.faults ≡ c.args.core.now.faults = ap (λ (w : PartsValue). w.log.faults) rooms.same ∙ ap (λ (w : CoreValue). w.faults) v in
    let new : ManagerValue = record { plain = plain_of c.alter.new.parts; delta = c.core.inside.effects.dids; stopped = c.core.inside.stopped; faults = c.alter.new.parts.log.faults } in
    subst (λ (lines : List (List ℕ)). MeetsOrWants (manager_of c.args.core.now) (change_step c.args.planned c.args.core.now.plain.definitions) (Ok (record { lines = lines })) new) (sym c.new.ensures)
    (change_done c.args.planned (manager_of c.args.core.now) new done (ap (λ (w : CoreValue). w.delta) v) (ap (λ (w : CoreValue). w.stopped) v)
    (omega (arith, faults, settled, f.later)) (λ some. let here : 0 < y.log.armed = omega (arith, armed, some) in let more = f.ends.1 here in omega (arith, armed, more)))

pub returns-in-Err-clause-told : goal.returns-in-Err-clause-told
returns-in-Err-clause-told g c = rooms_bodies c.core.inside.parts c.make_room.new.parts c.in-Err.ensures.err ∙ ap (λ (w : CoreValue). w.log) (c.core.view_is ∙ c.begin_call.ensures)

pub returns-in-Err-force_change-clause-told : goal.returns-in-Err-force_change-clause-told
returns-in-Err-force_change-clause-told g c =
    let v = c.core.view_is ∙ c.begin_call.ensures in
    let plain = plain_is v in
    let x : PartsValue = c.core.inside.parts in
    let y : PartsValue = c.make_room.new.parts in
    let z : PartsValue = c.force_change.new.parts in
    let f = c.in-Err-force_change.ensures in
    let rooms = c.in-Ok.ensures.ok.rooms in
    let r = records.Objects c.args.planned.change in
    let is = ap plain_of c.go_down.ensures ∙ change_frozen c.args.planned c.in-Err-force_change.stop x y z (mode_up (frozen_of x) x.mode (ap (λ (p : Plain). is_up p.running) plain ∙ c.requires.up)) rooms f
    ∙ ap (λ (p : Plain). freeze (note_of (object_part c.args.planned p.definitions) (object_part c.args.planned p.definitions).forced) z.log.armed p) plain in
    let down = ap (λ (w : PartsValue). w.log.armed) c.go_down.ensures in
    record {
      part = 0;
      write = refl;
      records = f.fits;
      plain = subst (λ (n : ℕ). plain_of c.go_down.new.parts ≡ freeze (note_of (object_part c.args.planned c.args.core.now.plain.definitions) (object_part c.args.planned c.args.core.now.plain.definitions).forced) n c.args.core.now.plain) (sym down) is;
      log = ap (λ (w : PartsValue). bodies_in w.log) c.go_down.ensures ∙ stopped_bodies r y z c.in-Err-force_change.stop f ∙ ap (pending_record (Some r)) (rooms_bodies x y rooms ∙ ap (λ (w : CoreValue). w.log) v);
    }

pub returns-clause-told : goal.returns-clause-told
returns-clause-told g c =
    let r = records.Objects c.args.planned.change in (
      ap (λ (w : PartsValue). bodies_in w.log) c.alter.ensures
          ∙ forced_bodies r c.make_room.new.parts c.force_change.new.parts c.in-Ok-force_change.ensures
          ∙ ap (behind_record (Some r)) (rooms_bodies c.core.inside.parts c.make_room.new.parts c.in-Ok.ensures.ok.rooms ∙ ap (λ (w : CoreValue). w.log) (c.core.view_is ∙ c.begin_call.ensures)),
      (c.in-Ok-force_change.ensures.fits, tt),
    )
