use Rattle.std.proofs.Common.{◌≡◌, ◌∙◌, sym, ap, subst, arith}
use Rattle.std.specs.Prelude.{List, [], ◌∷◌, ◌++◌, Ok, None, IsSome}
use Rattle.mq_calls.specs.Words.{ManagerValue, Plain, Meets, local_of, apply_all}
use Rattle.mq_calls.specs.declared.deltas.Did.{Did}
use Rattle.mq_calls.specs.declared.answers.Answer.{Answer}
use Rattle.mq_calls.specs.declared.answers.Sent.{Sent}
use Rattle.mq_core.specs.Counting.{CanCount}
use Rattle.mq_calls.specs.State.Change.{CountIdent}
use Rattle.mq_spec_manager.specs.Words.{next_ident, placed}
use Rattle.mq_calls.specs.declared.deltas.Did.TheVariants as did
use Rattle.mq_core.specs.from_unit.Told.{Telling}
use Rattle.mq_core.specs.Views.{PartsValue, plain_of}
use Rattle.mq_core.specs.Calls.{now_step}
use Rattle.mq_core.specs.Ties.{Tied}
use Rattle.mq_core.specs.Forced.{counted_put}
use Rattle.mq_core.proofs.PutLaws.{tied_roomier, roomier_view, way_free, way_ready, way_tied, free_done, free_meets, placed_faults}
use Rattle.mq_core.specs.Values.{CoreValue, manager_of, bodies_in}
use Rattle.mq_core.proofs.WriteLaws.{roomier_bodies, expected_bodies, placed_log, free_wrote}
use Rattle.mq_mqi.proofs.putting.put_free.Goals as goal

plain_is : {v w : CoreValue} → v ≡ w → v.plain ≡ w.plain
plain_is e = ap (λ (x : CoreValue). x.plain) e

pub invariant_of-core : goal.invariant_of-core
invariant_of-core g c = tied_roomier c.core.inside.parts c.make_put_room.new.parts c.in-Err.ensures.err c.core.invariant

pub returns-in-Err-clause-meets : goal.returns-in-Err-clause-meets
returns-in-Err-clause-meets g c =
    let v = c.core.view_is ∙ c.begin_call.ensures in
    let h = c.in-Err.ensures.err in
    let plain = roomier_view c.core.inside.parts c.make_put_room.new.parts h ∙ plain_is v in
    let told = c.make_put_room.ensures.dids ∙ ap (λ (x : CoreValue). x.delta) v in
    let faults = ap (λ (x : PartsValue). x.log.faults) h.same ∙ ap (λ (x : CoreValue). x.faults) v in
    λ i. record { plain = plain i; delta = told i; stopped = (v i).stopped; faults = faults i }

pub settle_put-requires-clause-idents : goal.settle_put-requires-clause-idents
settle_put-requires-clause-idents g c =
    let plain = plain_is (c.core.view_is ∙ c.begin_call.ensures) in
    let same = ap (λ (x : PartsValue). x.idents) c.in-Ok.ensures.ok.same in
    let idents = ap (λ (p : Plain). p.numbers.idents) plain in
    omega (arith, same, idents, c.requires.low.idents)

pub settle_put-requires-clause-ready : goal.settle_put-requires-clause-ready
settle_put-requires-clause-ready g c =
    let plain = plain_is (c.core.view_is ∙ c.begin_call.ensures) in
    let x : PartsValue = c.core.inside.parts in
    let there = subst (λ (p : Plain). IsSome (local_of c.args.queue.now p.definitions)) (sym plain) c.requires.there in
    let low = subst CanCount (sym plain) c.requires.low in
    let ident = c.requires.ident ∙ ap next_ident (sym plain) in
    way_ready c.args.queue.now c.args.message x (counted_put 0 c.make_put_room.new.parts) there (way_free c.args.queue.now c.args.message 0 x c.make_put_room.new.parts ident c.in-Ok.ensures.ok c.core.invariant) c.core.invariant low

pub invariant_of-core-2 : goal.invariant_of-core-2
invariant_of-core-2 g c =
    let plain = plain_is (c.core.view_is ∙ c.begin_call.ensures) in
    let x : PartsValue = c.core.inside.parts in
    let there = subst (λ (p : Plain). IsSome (local_of c.args.queue.now p.definitions)) (sym plain) c.requires.there in
    let low = subst CanCount (sym plain) c.requires.low in
    let ident = c.requires.ident ∙ ap next_ident (sym plain) in
    subst Tied (sym c.settle_put.ensures) (way_tied c.args.queue.now c.args.message x (counted_put 0 c.make_put_room.new.parts) there (way_free c.args.queue.now c.args.message 0 x c.make_put_room.new.parts ident c.in-Ok.ensures.ok c.core.invariant) c.core.invariant low)

pub returns-clause-meets : goal.returns-clause-meets
returns-clause-meets g c =
    let v = c.core.view_is ∙ c.begin_call.ensures in
    let plain = plain_is v in
    let x : PartsValue = c.core.inside.parts in
    let y : PartsValue = c.make_put_room.new.parts in
    let there = subst (λ (p : Plain). IsSome (local_of c.args.queue.now p.definitions)) (sym plain) c.requires.there in
    let low = subst CanCount (sym plain) c.requires.low in
    let ident = c.requires.ident ∙ ap next_ident (sym plain) in
    let way = way_free c.args.queue.now c.args.message 0 x y ident c.in-Ok.ensures.ok c.core.invariant in
    let ready = way_ready c.args.queue.now c.args.message x (counted_put 0 y) there way c.core.invariant low in
    let done = ap plain_of c.settle_put.ensures ∙ free_done c.args.queue.now c.args.message 0 x y c.in-Ok.ensures.ok ready ∙ ap (apply_all (CountIdent ∷ placed c.args.queue.now c.args.message)) plain in
    let told = ap (λ (t : Telling). t.dids) c.tell.ensures ∙ ap (λ (ds : List Did). ds ++ did.Placed c.args.queue.now c.args.message.ident None ∷ []) (c.make_put_room.ensures.dids ∙ ap (λ (w : CoreValue). w.delta) v) in
    let faults = ap (λ (z : PartsValue). z.log.faults) c.settle_put.ensures ∙ placed_faults c.args.queue.now c.args.message (counted_put 0 y) ∙ ap (λ (z : PartsValue). z.log.faults) c.in-Ok.ensures.ok.same ∙ ap (λ (w : CoreValue). w.faults) v in
    let new : ManagerValue = record { plain = plain_of c.settle_put.new.self; delta = c.tell.new.self.dids; stopped = c.core.inside.stopped; faults = c.settle_put.new.self.log.faults } in
    subst (λ (a : Answer Sent). Meets (manager_of c.args.core.now) (now_step c.args.high c.args.queue.now c.args.message) (Ok a) new) (sym c.sent_answer-sent.ensures)
    (free_meets (manager_of c.args.core.now) new c.args.high c.args.queue.now c.args.message c.requires.free done told (ap (λ (w : CoreValue). w.stopped) v) faults)

pub returns-in-Err-clause-told : goal.returns-in-Err-clause-told
returns-in-Err-clause-told g c = roomier_bodies c.core.inside.parts c.make_put_room.new.parts c.in-Err.ensures.err ∙ ap (λ (w : CoreValue). w.log) (c.core.view_is ∙ c.begin_call.ensures)

pub returns-clause-told : goal.returns-clause-told
returns-clause-told g c =
    let y : PartsValue = c.make_put_room.new.parts in
    free_wrote c.args.queue.now c.args.message c.args.core.now.log _ c.requires.free
    (ap (λ (z : PartsValue). bodies_in z.log) c.settle_put.ensures
    ∙ ap bodies_in (placed_log c.args.queue.now c.args.message (counted_put 0 y))
    ∙ expected_bodies c.args.queue.now 0 c.core.inside.parts y c.in-Ok.ensures.ok
    ∙ ap (λ (w : CoreValue). w.log) (c.core.view_is ∙ c.begin_call.ensures))
