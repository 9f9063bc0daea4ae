-- A change that a command makes: from the room that it takes to the parts behind it.
use Rattle.std.proofs.Common.{◌≡◌, ℕ, ◌+◌, ◌<◌, ◌≤◌, Bool, true, [], refl, ap, arith, sym, subst, ◌∙◌}
use Rattle.std.specs.Prelude.{Some, None, Ok, Err}
use Rattle.mq_base.specs.Outside.{Rose}
use Rattle.mq_disk.specs.declared.cutter.Stop.{Stop}
use Rattle.mq_disk.specs.declared.cutter.Stop.TheVariants as stops
use Rattle.mq_objects.specs.declared.object.Object.{Object}
use Rattle.mq_objects.specs.declared.object.Object.TheVariants as objects
use Rattle.mq_objects.specs.declared.object.Definitions.{Definitions}
use Rattle.mq_objects.specs.declared.change.ObjectChange.{ObjectChange}
use Rattle.mq_objects.specs.declared.change.ObjectChange.TheVariants as changes
use Rattle.mq_calls.specs.declared.commands.Halt.TheVariants as halts
use Rattle.mq_calls.specs.declared.records.LogRecord.{LogRecord}
use Rattle.mq_calls.specs.declared.records.LogRecord.TheVariants as records
use Rattle.mq_sc_apply.specs.declared.answers.Planned.{Planned}
use Rattle.mq_calls.specs.State.{LogState as PlainLog}
use Rattle.mq_calls.specs.Words.{Plain, ManagerValue, MeetsOrWants, need, freeze, note_of, logged, apply_all}
use Rattle.mq_spec_manager.specs.Commands.{object_part}
use Rattle.mq_law_manager.specs.Facts.{AreOnce}
use Rattle.mq_log.specs.Force.{Stops}
use Rattle.mq_log.specs.State.{LogState}
use Rattle.mq_core.specs.declared.parts.StoppedWrite.TheVariants as writes
use Rattle.mq_core.specs.Views.{PartsValue, plain_of}
use Rattle.mq_core.specs.Values.{bodies_in}
use Rattle.mq_core.specs.Ties.{Tied, EndsReady, mode_is_up}
use Rattle.mq_core.specs.Forced.{IsForced, downed}
use Rattle.mq_core.proofs.ForceLaws.{forced_view, frozen_view, tied_where, tied_downed, stops_at}
use Rattle.mq_steer.specs.Altered.{IsMarked, CanChange, HasRooms, IsRoomy, altered, change_step}
use Rattle.mq_steer.proofs.AlterLaws.{altered_view}
use Rattle.mq_steer.proofs.AlterTies.{altered_tied}

-- room that was taken
pub tied_rooms : (x y : PartsValue) → HasRooms x y → Tied x → Tied y
tied_rooms x y h t = subst Tied (sym h.same) (record {
  up = λ u. let w = t.up u in record { live = w.live; settled = w.settled; ends = w.ends; room = omega (arith, w.room, h.more); body = w.body };
  reserved = t.reserved;
  within = t.within;
  queues = record { lanes = t.queues.lanes; pending = t.queues.pending };
  idents = record { once = t.idents.once; given = t.idents.given };
  forced = t.forced;
  max = t.max;
  moment = t.moment;
})

pub rooms_view : (x y : PartsValue) → HasRooms x y → plain_of y ≡ plain_of x
rooms_view x y h = ap plain_of h.same

-- a record that was forced
pub tied_forced : (r : LogRecord) (long : ℕ) (x y z : PartsValue) → need r ≡ 11 + long → IsRoomy long x y → IsForced r y (Ok tt) z → Tied x → Tied z
tied_forced r long x y z e h f t =
    let ty = tied_rooms x y h.rooms t in
    let held = ap (λ (w : PartsValue). w.log.reserved) h.rooms.same in
    let kept = ap (λ (l : LogState). l.reserved) f.log in
    let most = ap (λ (l : LogState). l.max) f.log in
    subst Tied (sym f.same) (tied_where [] [] y.ends z.log z.body y.mode y (λ u. let w = ty.up u in record {
      live = ap (λ (l : LogState). l.live) f.log ∙ w.live;
      settled = ap (λ (l : LogState). l.pending) f.log ∙ w.settled;
      ends = subst (EndsReady y.ends) (sym (ap (λ (l : LogState). l.spare) f.log)) w.ends;
      room = omega (arith, held, kept, f.room, h.log, e);
      body = omega (arith, kept, w.body, f.body);
    }) (λ u. kept ∙ ty.reserved u) (λ u. let w = ty.within u in omega (arith, kept, most, w)) (let w = ty.max in omega (arith, most, w)) ty)

-- what a change keeps to does not look at the log
marked_logged : (new : Object) (reroutes on : Bool) (p : Plain) (log : PlainLog) → IsMarked new reroutes on p → IsMarked new reroutes on (record p { log = log })
marked_logged (objects.Local q) reroutes on p log m = m
marked_logged (objects.Alias q) reroutes on p log m = m
marked_logged (objects.Remote q) reroutes on p log m = m
marked_logged (objects.Channel q) reroutes on p log m = m
marked_logged (objects.Process q) reroutes on p log m = m

can_logged : (change : ObjectChange) (reroutes on : Bool) (p : Plain) (log : PlainLog) → CanChange change reroutes on p → CanChange change reroutes on (record p { log = log })
can_logged (changes.Set new) reroutes on p log can = record {
  over = λ old e. let over = can.over old e in record { kind = over.kind; filled = over.filled };
  marked = marked_logged new reroutes on p log can.marked;
}
can_logged (changes.SetManager m) reroutes on p log can = tt
can_logged (changes.Delete s) reroutes on p log can = record { old = can.old; found = can.found; kind = can.kind; filled = can.filled }

rooms_up : (x y : PartsValue) → mode_is_up x.mode ≡ true → HasRooms x y → mode_is_up y.mode ≡ true
rooms_up x y up h = ap (λ (w : PartsValue). mode_is_up w.mode) h.same ∙ up

abbrev record_of : Planned → LogRecord
record_of planned = records.Objects planned.change

forced_is : (planned : Planned) (x y z : PartsValue) → mode_is_up x.mode ≡ true → HasRooms x y → IsForced (record_of planned) y (Ok tt) z → plain_of z ≡ logged (Some (record_of planned)) (plain_of x)
forced_is planned x y z up h f = forced_view (record_of planned) y z (rooms_up x y up h) f ∙ ap (λ (p : Plain). logged (Some (record_of planned)) p) (rooms_view x y h)

-- all but the log is as it was
with_log : PlainLog → PartsValue → Plain
with_log log x = record (plain_of x) { log = log }

log_in : PlainLog → PartsValue → LogState → Plain
log_in log x inside = record (plain_of (record x { log = inside })) { log = log }

forced_but : (planned : Planned) (x y z : PartsValue) → HasRooms x y → IsForced (record_of planned) y (Ok tt) z → plain_of z ≡ record (plain_of x) { log = (plain_of z).log }
unfolding with_log log_in
forced_but planned x y z h f = ap (with_log (plain_of z).log) f.same ∙ ap (log_in (plain_of z).log y) f.log ∙ ap (with_log (plain_of z).log) h.same

can_behind : (planned : Planned) (x y z : PartsValue) → HasRooms x y → IsForced (record_of planned) y (Ok tt) z → CanChange planned.change planned.reroutes planned.switches_on (plain_of x) → CanChange planned.change planned.reroutes planned.switches_on (plain_of z)
can_behind planned x y z h f can =
    subst (λ (p : Plain). CanChange planned.change planned.reroutes planned.switches_on p) (sym (forced_but planned x y z h f))
    (can_logged planned.change planned.reroutes planned.switches_on (plain_of x) (plain_of z).log can)

pub can_alter : (planned : Planned) (x y z : PartsValue) → HasRooms x y → IsForced (record_of planned) y (Ok tt) z → CanChange planned.change planned.reroutes planned.switches_on (plain_of x) → CanChange planned.change planned.reroutes planned.switches_on (plain_of z)
can_alter planned x y z h f can = can_behind planned x y z h f can

-- behind the change
pub change_tied : (planned : Planned) (long r s : ℕ) (x y z : PartsValue) → need (record_of planned) ≡ 11 + long → IsRoomy long x y → IsForced (record_of planned) y (Ok tt) z → Tied x
    → AreOnce x.defs.definitions.objects → CanChange planned.change planned.reroutes planned.switches_on (plain_of x) → Tied (altered planned r s z)
change_tied planned long r s x y z e h f t once can =
    let same = ap (λ (p : Plain). p.definitions) (forced_but planned x y z h.rooms f) in
    altered_tied planned r s z (tied_forced (record_of planned) long x y z e h f t) (subst (λ (d : Definitions). AreOnce d.objects) (sym same) once) (can_behind planned x y z h.rooms f can)

abbrev done_to : Planned → Plain → Plain
done_to planned p = apply_all (object_part planned p.definitions).changes p

pub change_view : (planned : Planned) (long r s : ℕ) (x y z : PartsValue) → mode_is_up x.mode ≡ true → need (record_of planned) ≡ 11 + long → IsRoomy long x y → IsForced (record_of planned) y (Ok tt) z → Tied x
    → CanChange planned.change planned.reroutes planned.switches_on (plain_of x) → plain_of (altered planned r s z) ≡ apply_all (object_part planned x.defs.definitions).changes (logged (Some (record_of planned)) (plain_of x))
change_view planned long r s x y z up e h f t can =
    let mode = ap (λ (w : PartsValue). mode_is_up w.mode) f.same ∙ ap (λ (w : PartsValue). mode_is_up w.mode) h.rooms.same ∙ up in
    altered_view planned r s z mode (tied_forced (record_of planned) long x y z e h f t) (can_behind planned x y z h.rooms f can)
    ∙ ap (done_to planned) (forced_is planned x y z up h.rooms f)

-- where the write was stopped
abbrev freeze_as : Planned → ℕ → PartsValue → Plain
freeze_as planned left x = freeze (note_of (object_part planned x.defs.definitions) (object_part planned x.defs.definitions).forced) left (plain_of x)

pub change_frozen : (planned : Planned) (stop : Stop) (x y z : PartsValue) → mode_is_up x.mode ≡ true → HasRooms x y → IsForced (record_of planned) y (Err stop) z
    → plain_of (downed (writes.Objects planned) z) ≡ freeze (note_of (object_part planned x.defs.definitions) (object_part planned x.defs.definitions).forced) z.log.armed (plain_of x)
change_frozen planned stop x y z up h f = frozen_view (writes.Objects planned) (record_of planned) y z stop (rooms_up x y up h) f ∙ ap (freeze_as planned z.log.armed) h.same

pub change_down : (planned : Planned) (stop : Stop) (x y z : PartsValue) → HasRooms x y → IsForced (record_of planned) y (Err stop) z → Tied x → Tied (downed (writes.Objects planned) z)
change_down planned stop x y z h f t = tied_downed (writes.Objects planned) (record_of planned) [] y z stop f (tied_rooms x y h t)

-- room that was taken is not told
pub rooms_bodies : (x y : PartsValue) → HasRooms x y → bodies_in y.log ≡ bodies_in x.log
rooms_bodies x y h = ap (λ (w : PartsValue). bodies_in w.log) h.same

-- how the command then ends
pub change_done : (planned : Planned) (v new : ManagerValue) → new.plain ≡ apply_all (object_part planned v.plain.definitions).changes (logged (Some (record_of planned)) v.plain) → new.delta ≡ [] → new.stopped ≡ None
    → v.faults ≤ new.faults → (0 < v.plain.log.armed → 4 < v.plain.log.armed) → MeetsOrWants v (change_step planned v.plain.definitions) (Ok (record { lines = [] })) new
change_done planned v new plain told stopped faults ran = (refl, ran, faults, (λ i. record { plain = plain i; delta = told i; stopped = stopped i; faults = new.faults }))

pub change_stopped : (planned : Planned) (v new : ManagerValue) (stop : Stop) → new.plain ≡ freeze (note_of (object_part planned v.plain.definitions) (object_part planned v.plain.definitions).forced) new.plain.log.armed v.plain → new.delta ≡ [] → new.stopped ≡ Some stop
    → Stops v.plain.log.armed (Err stop) new.plain.log.armed → v.faults ≤ new.faults → (stop ≡ stops.Disk → Rose v.faults new.faults)
    → MeetsOrWants v (change_step planned v.plain.definitions) (Err (halts.Stopped stop)) new
change_stopped planned v new stop plain told stopped ends later rose = record {
  part = 0;
  write = refl;
  stop = stops_at stop v.plain.log.armed new.plain.log.armed ends;
  next = λ i. record { plain = plain i; delta = told i; stopped = stopped i; faults = new.faults };
  later = later;
  rose = rose;
}
