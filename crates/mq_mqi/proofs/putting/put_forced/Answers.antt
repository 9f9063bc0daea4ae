use Rattle.std.proofs.Common.{◌≡◌, ◌+◌, ◌<◌, ◌∙◌, sym, ap, subst, refl, arith}
use Rattle.std.specs.Prelude.{ℕ, true, List, [], ◌∷◌, ◌++◌, Ok, Err, Some, None, IsSome}
use Rattle.mq_base.specs.Outside.{Rose}
use Rattle.mq_disk.specs.declared.cutter.Stop.{Stop}
use Rattle.mq_log.specs.Force.{Stops}
use Rattle.mq_calls.specs.Words.{ManagerValue, Plain, Meets, local_of, is_up, freeze, apply_all, logged, note_of}
use Rattle.mq_calls.specs.declared.deltas.Did.{Did}
use Rattle.mq_calls.specs.declared.answers.Answer.{Answer}
use Rattle.mq_calls.specs.declared.answers.Sent.{Sent}
use Rattle.mq_core.specs.Counting.{CanCount}
use Rattle.mq_calls.specs.State.Change.{CountIdent}
use Rattle.mq_spec_manager.specs.Words.{next_ident, placed}
use Rattle.mq_calls.specs.declared.deltas.Did.TheVariants as did
use Rattle.mq_core.specs.from_unit.Told.{Telling}
use Rattle.mq_core.specs.Views.{PartsValue, plain_of, frozen_of}
use Rattle.mq_core.specs.Writes.{added, now_part}
use Rattle.mq_core.specs.Calls.{now_step}
use Rattle.mq_core.specs.Ties.{Tied, mode_is_up}
use Rattle.mq_core.specs.Forced.{counted_put}
use Rattle.mq_core.proofs.MeetLaws.{mode_up}
use Rattle.mq_core.proofs.PutLaws.{tied_roomier, roomier_view, way_forced, way_ready, way_tied, forced_done, forced_meets, stopped_meets, put_stopped_view, put_stopped_tied, need_added, short_record, placed_faults}
use Rattle.mq_core.specs.Values.{CoreValue, manager_of, bodies_in, behind_record, pending_record}
use Rattle.mq_core.proofs.WriteLaws.{roomier_bodies, expected_bodies, placed_log, forced_bodies, stopped_bodies, forced_wrote, stopped_writes}
use Rattle.mq_mqi.proofs.putting.put_forced.Goals as goal

plain_is : {v w : CoreValue} → v ≡ w → v.plain ≡ w.plain
plain_is e = ap (λ (x : CoreValue). x.plain) e

is_mode_up : (x : PartsValue) → is_up (plain_of x).running ≡ true → mode_is_up x.mode ≡ true
is_mode_up x e = mode_up (frozen_of x) x.mode e

pub invariant_of-core : goal.invariant_of-core
invariant_of-core g c = tied_roomier c.core.inside.parts c.make_put_room.new.parts c.in-Err.ensures.err c.core.invariant

pub returns-in-Err-clause-meets : goal.returns-in-Err-clause-meets
returns-in-Err-clause-meets g c =
    let v = c.core.view_is ∙ c.begin_call.ensures in
    let h = c.in-Err.ensures.err in
    let plain = roomier_view c.core.inside.parts c.make_put_room.new.parts h ∙ plain_is v in
    let told = c.make_put_room.ensures.dids ∙ ap (λ (x : CoreValue). x.delta) v in
    let faults = ap (λ (x : PartsValue). x.log.faults) h.same ∙ ap (λ (x : CoreValue). x.faults) v in
    λ i. record { plain = plain i; delta = told i; stopped = (v i).stopped; faults = faults i }

pub force_put-requires-clause-live : goal.force_put-requires-clause-live
force_put-requires-clause-live g c =
    let plain = plain_is (c.core.view_is ∙ c.begin_call.ensures) in
    let x : PartsValue = c.core.inside.parts in
    let up = mode_up (frozen_of x) x.mode (ap (λ (p : Plain). is_up p.running) plain ∙ c.requires.up) in
    ap (λ (z : PartsValue). z.log.live) c.in-Ok.ensures.ok.same ∙ (c.core.invariant.up up).live

pub force_put-requires-clause-room : goal.force_put-requires-clause-room
force_put-requires-clause-room g c =
    let need = need_added c.args.queue.now c.args.message in
    omega (arith, need, c.put_bytes-need.ensures, c.in-Ok.ensures.ok.log)

pub force_put-requires-clause-body : goal.force_put-requires-clause-body
force_put-requires-clause-body g c =
    let need = need_added c.args.queue.now c.args.message in
    omega (arith, need, c.put_bytes-need.ensures, c.in-Ok.ensures.ok.body)

pub force_put-requires-clause-small : goal.force_put-requires-clause-small
force_put-requires-clause-small g c = let short = short_record c.args.queue.now c.args.message c.requires.kept in omega (arith, short)

pub invariant_of-core-in-Err-force_put : goal.invariant_of-core-in-Err-force_put
invariant_of-core-in-Err-force_put g c =
    subst Tied (sym c.go_down_put.ensures) (put_stopped_tied c.args.queue.now c.args.message _ (added c.args.queue.now c.args.message) c.in-Err-force_put.stop c.core.inside.parts c.make_put_room.new.parts c.force_put.new.self c.in-Ok.ensures.ok c.in-Err-force_put.ensures c.core.invariant)

pub returns-in-Err-force_put-clause-meets : goal.returns-in-Err-force_put-clause-meets
returns-in-Err-force_put-clause-meets g c =
    let v = c.core.view_is ∙ c.begin_call.ensures in
    let plain = plain_is v in
    let x : PartsValue = c.core.inside.parts in
    let y : PartsValue = c.make_put_room.new.parts in
    let z : PartsValue = c.force_put.new.self in
    let f = c.in-Err-force_put.ensures in
    let is = ap plain_of c.go_down_put.ensures ∙ put_stopped_view c.args.queue.now c.args.message _ (added c.args.queue.now c.args.message) c.in-Err-force_put.stop x y z (is_mode_up c.core.inside.parts (ap (λ (p : Plain). is_up p.running) plain ∙ c.requires.up)) c.in-Ok.ensures.ok f
    ∙ ap (freeze (note_of (now_part c.args.queue.now c.args.message) (now_part c.args.queue.now c.args.message).forced) z.log.armed) plain in
    let same = c.in-Ok.ensures.ok.same in
    let down = ap (λ (w : PartsValue). w.log.armed) c.go_down_put.ensures in
    let failed = ap (λ (w : PartsValue). w.log.faults) c.go_down_put.ensures in
    let armed : y.log.armed ≡ c.args.core.now.plain.log.armed = ap (λ (w : PartsValue). w.log.armed) same ∙ ap (λ (p : Plain). p.log.armed) plain in
    let faults : y.log.faults ≡ c.args.core.now.faults = ap (λ (w : PartsValue). w.log.faults) same ∙ ap (λ (w : CoreValue). w.faults) v in
    stopped_meets (manager_of c.args.core.now) _ c.args.high c.args.queue.now c.args.message c.in-Err-force_put.stop c.requires.kept
    (subst (λ (n : ℕ). plain_of c.go_down_put.new.self ≡ freeze (note_of (now_part c.args.queue.now c.args.message) (now_part c.args.queue.now c.args.message).forced) n c.args.core.now.plain) (sym down) is)
    (c.make_put_room.ensures.dids ∙ ap (λ (w : CoreValue). w.delta) v) refl
    (subst (λ (n : ℕ). Stops n (Err c.in-Err-force_put.stop) c.go_down_put.new.self.log.armed) armed (subst (λ (n : ℕ). Stops y.log.armed (Err c.in-Err-force_put.stop) n) (sym down) f.ends))
    (omega (arith, faults, failed, f.later))
    (λ e. subst (λ (n : ℕ). Rose n c.go_down_put.new.self.log.faults) faults (subst (λ (n : ℕ). Rose y.log.faults n) (sym failed) (f.disk (ap (λ (s : Stop). Err s) e))))

pub settle_put-requires-clause-idents : goal.settle_put-requires-clause-idents
settle_put-requires-clause-idents g c =
    let plain = plain_is (c.core.view_is ∙ c.begin_call.ensures) in
    let same = ap (λ (x : PartsValue). x.idents) c.in-Ok.ensures.ok.same in
    let wrote = ap (λ (x : PartsValue). x.idents) c.in-Ok-force_put.ensures.same in
    let idents = ap (λ (p : Plain). p.numbers.idents) plain in
    omega (arith, same, wrote, idents, c.requires.low.idents)

pub settle_put-requires-clause-body : goal.settle_put-requires-clause-body
settle_put-requires-clause-body g c = omega (arith, c.in-Ok.ensures.ok.body, c.in-Ok-force_put.ensures.body)

pub settle_put-requires-clause-ready : goal.settle_put-requires-clause-ready
settle_put-requires-clause-ready g c =
    let plain = plain_is (c.core.view_is ∙ c.begin_call.ensures) in
    let x : PartsValue = c.core.inside.parts in
    let y : PartsValue = c.make_put_room.new.parts in
    let z : PartsValue = c.force_put.new.self in
    let there = subst (λ (p : Plain). IsSome (local_of c.args.queue.now p.definitions)) (sym plain) c.requires.there in
    let low = subst CanCount (sym plain) c.requires.low in
    let ident = c.requires.ident ∙ ap next_ident (sym plain) in
    let need = need_added c.args.queue.now c.args.message in
    let way = way_forced c.args.queue.now c.args.message _ (added c.args.queue.now c.args.message) x y z (omega (arith, need, c.put_bytes-need.ensures)) ident c.in-Ok.ensures.ok c.in-Ok-force_put.ensures c.core.invariant in
    way_ready c.args.queue.now c.args.message x _ there way c.core.invariant low

pub invariant_of-core-2 : goal.invariant_of-core-2
invariant_of-core-2 g c =
    let plain = plain_is (c.core.view_is ∙ c.begin_call.ensures) in
    let x : PartsValue = c.core.inside.parts in
    let y : PartsValue = c.make_put_room.new.parts in
    let z : PartsValue = c.force_put.new.self in
    let there = subst (λ (p : Plain). IsSome (local_of c.args.queue.now p.definitions)) (sym plain) c.requires.there in
    let low = subst CanCount (sym plain) c.requires.low in
    let ident = c.requires.ident ∙ ap next_ident (sym plain) in
    let need = need_added c.args.queue.now c.args.message in
    let way = way_forced c.args.queue.now c.args.message _ (added c.args.queue.now c.args.message) x y z (omega (arith, need, c.put_bytes-need.ensures)) ident c.in-Ok.ensures.ok c.in-Ok-force_put.ensures c.core.invariant in
    subst Tied (sym c.settle_put.ensures) (way_tied c.args.queue.now c.args.message x _ there way c.core.invariant low)

pub returns-clause-meets : goal.returns-clause-meets
returns-clause-meets g c =
    let v = c.core.view_is ∙ c.begin_call.ensures in
    let plain = plain_is v in
    let x : PartsValue = c.core.inside.parts in
    let y : PartsValue = c.make_put_room.new.parts in
    let z : PartsValue = c.force_put.new.self in
    let r = added c.args.queue.now c.args.message in
    let f = c.in-Ok-force_put.ensures in
    let there = subst (λ (p : Plain). IsSome (local_of c.args.queue.now p.definitions)) (sym plain) c.requires.there in
    let low = subst CanCount (sym plain) c.requires.low in
    let ident = c.requires.ident ∙ ap next_ident (sym plain) in
    let need = need_added c.args.queue.now c.args.message in
    let way = way_forced c.args.queue.now c.args.message _ r x y z (omega (arith, need, c.put_bytes-need.ensures)) ident c.in-Ok.ensures.ok f c.core.invariant in
    let ready = way_ready c.args.queue.now c.args.message x _ there way c.core.invariant low in
    let done = ap plain_of c.settle_put.ensures ∙ forced_done c.args.queue.now c.args.message _ r x y z (is_mode_up c.core.inside.parts (ap (λ (p : Plain). is_up p.running) plain ∙ c.requires.up)) c.in-Ok.ensures.ok f ready ∙ ap (λ (p : Plain). apply_all (CountIdent ∷ placed c.args.queue.now c.args.message) (logged (Some r) p)) plain in
    let told = ap (λ (t : Telling). t.dids) c.tell.ensures ∙ ap (λ (ds : List Did). ds ++ did.Placed c.args.queue.now c.args.message.ident None ∷ []) (c.make_put_room.ensures.dids ∙ ap (λ (w : CoreValue). w.delta) v) in
    let same = c.in-Ok.ensures.ok.same in
    let settled : c.settle_put.new.self.log.faults ≡ z.log.faults = ap (λ (w : PartsValue). w.log.faults) c.settle_put.ensures ∙ placed_faults c.args.queue.now c.args.message (counted_put (14 + c.put_bytes-need.result) z) in
    let armed : y.log.armed ≡ c.args.core.now.plain.log.armed = ap (λ (w : PartsValue). w.log.armed) same ∙ ap (λ (p : Plain). p.log.armed) plain in
    let faults : y.log.faults ≡ c.args.core.now.faults = ap (λ (w : PartsValue). w.log.faults) same ∙ ap (λ (w : CoreValue). w.faults) v in
    let new : ManagerValue = record { plain = plain_of c.settle_put.new.self; delta = c.tell.new.self.dids; stopped = c.core.inside.stopped; faults = c.settle_put.new.self.log.faults } in
    subst (λ (a : Answer Sent). Meets (manager_of c.args.core.now) (now_step c.args.high c.args.queue.now c.args.message) (Ok a) new) (sym c.sent_answer-sent.ensures)
    (forced_meets (manager_of c.args.core.now) new c.args.high c.args.queue.now c.args.message c.requires.kept done told (ap (λ (w : CoreValue). w.stopped) v)
    (omega (arith, faults, settled, f.later)) (λ some. let here : 0 < y.log.armed = omega (arith, armed, some) in let more = f.ends.1 here in omega (arith, armed, more)))

pub returns-in-Err-clause-told : goal.returns-in-Err-clause-told
returns-in-Err-clause-told g c = roomier_bodies c.core.inside.parts c.make_put_room.new.parts c.in-Err.ensures.err ∙ ap (λ (w : CoreValue). w.log) (c.core.view_is ∙ c.begin_call.ensures)

pub returns-in-Err-force_put-clause-told : goal.returns-in-Err-force_put-clause-told
returns-in-Err-force_put-clause-told g c =
    let v = c.core.view_is ∙ c.begin_call.ensures in
    let plain = plain_is v in
    let x : PartsValue = c.core.inside.parts in
    let y : PartsValue = c.make_put_room.new.parts in
    let z : PartsValue = c.force_put.new.self in
    let r = added c.args.queue.now c.args.message in
    let f = c.in-Err-force_put.ensures in
    let is = ap plain_of c.go_down_put.ensures ∙ put_stopped_view c.args.queue.now c.args.message _ r c.in-Err-force_put.stop x y z (is_mode_up c.core.inside.parts (ap (λ (p : Plain). is_up p.running) plain ∙ c.requires.up)) c.in-Ok.ensures.ok f
    ∙ ap (freeze (note_of (now_part c.args.queue.now c.args.message) (now_part c.args.queue.now c.args.message).forced) z.log.armed) plain in
    let down = ap (λ (w : PartsValue). w.log.armed) c.go_down_put.ensures in
    stopped_writes c.args.core.now _ c.args.high c.args.queue.now c.args.message c.in-Err-force_put.stop c.requires.kept f.fits
    (subst (λ (n : ℕ). plain_of c.go_down_put.new.self ≡ freeze (note_of (now_part c.args.queue.now c.args.message) (now_part c.args.queue.now c.args.message).forced) n c.args.core.now.plain) (sym down) is)
    (ap (λ (w : PartsValue). bodies_in w.log) c.go_down_put.ensures ∙ stopped_bodies r y z c.in-Err-force_put.stop f
    ∙ ap (pending_record (Some r)) (expected_bodies c.args.queue.now _ x y c.in-Ok.ensures.ok ∙ ap (λ (w : CoreValue). w.log) v))

pub returns-clause-told : goal.returns-clause-told
returns-clause-told g c =
    let y : PartsValue = c.make_put_room.new.parts in
    let z : PartsValue = c.force_put.new.self in
    let r = added c.args.queue.now c.args.message in
    forced_wrote c.args.queue.now c.args.message c.args.core.now.log _ c.requires.kept c.in-Ok-force_put.ensures.fits
    (ap (λ (w : PartsValue). bodies_in w.log) c.settle_put.ensures
    ∙ ap bodies_in (placed_log c.args.queue.now c.args.message (counted_put (14 + c.put_bytes-need.result) z))
    ∙ forced_bodies r y z c.in-Ok-force_put.ensures
    ∙ ap (behind_record (Some r)) (expected_bodies c.args.queue.now _ c.core.inside.parts y c.in-Ok.ensures.ok ∙ ap (λ (w : CoreValue). w.log) (c.core.view_is ∙ c.begin_call.ensures)))
