use Rattle.std.proofs.Common.{◌≡◌, ◌∙◌, sym, ap, subst, refl, arith}
use Rattle.std.specs.Prelude.{List, [], ◌∷◌, ◌++◌, None}
use Rattle.mq_calls.specs.Words.{Plain, apply_all}
use Rattle.mq_calls.specs.declared.deltas.Did.{Did}
use Rattle.mq_core.specs.Counting.{CanCount}
use Rattle.mq_calls.specs.declared.deltas.Did.TheVariants as did
use Rattle.mq_core.specs.from_unit.Told.{Telling}
use Rattle.mq_core.specs.Views.{PartsValue, plain_of}
use Rattle.mq_core.specs.Ties.{Tied}
use Rattle.mq_core.proofs.PutLaws.{tied_roomier, roomier_view}
use Rattle.mq_steer.specs.Turns.{sent_part, IsDue, CanSend}
use Rattle.mq_steer.proofs.TurnLaws.{turn_ready, turn_tied, turn_view}
use Rattle.mq_core.specs.Values.{CoreValue, bodies_in}
use Rattle.mq_core.proofs.WriteLaws.{roomier_bodies, expected_bodies}
use Rattle.mq_steer.proofs.triggers.send.Goals as goal

plain_is : {v w : CoreValue} → v ≡ w → v.plain ≡ w.plain
plain_is e = ap (λ (x : CoreValue). x.plain) e

pub invariant_of-core : goal.invariant_of-core
invariant_of-core g c = tied_roomier c.core.inside.parts c.make_put_room.new.parts c.in-Err.ensures.err c.core.invariant

pub returns-in-Err-clause-meets : goal.returns-in-Err-clause-meets
returns-in-Err-clause-meets g c =
    let v = c.core.view_is ∙ c.begin_call.ensures in
    let h = c.in-Err.ensures.err in
    let plain = roomier_view c.core.inside.parts c.make_put_room.new.parts h ∙ plain_is v in
    let told = c.make_put_room.ensures.dids ∙ ap (λ (x : CoreValue). x.delta) v in
    let faults = ap (λ (x : PartsValue). x.log.faults) h.same ∙ ap (λ (x : CoreValue). x.faults) v in
    λ i. record { plain = plain i; delta = told i; stopped = (v i).stopped; faults = faults i }

pub place-requires-clause-idents : goal.place-requires-clause-idents
place-requires-clause-idents g c =
    let plain = plain_is (c.core.view_is ∙ c.begin_call.ensures) in
    let same = ap (λ (x : PartsValue). x.idents) c.in-Ok.ensures.ok.same in
    let idents = ap (λ (p : Plain). p.numbers.idents) plain in
    omega (arith, same, idents, c.requires.low.idents)

pub place-requires-clause-ready : goal.place-requires-clause-ready
place-requires-clause-ready g c =
    let plain = plain_is (c.core.view_is ∙ c.begin_call.ensures) in
    let x : PartsValue = c.core.inside.parts in
    let low = subst CanCount (sym plain) c.requires.low in
    let due = subst (λ (p : Plain). IsDue c.args.from.now p) (sym plain) c.requires.due in
    let can = subst (λ (p : Plain). CanSend c.args.to.now c.args.message p) (sym plain) c.requires.can in
    turn_ready c.args.from.now c.args.to.now c.args.message x c.make_put_room.new.parts low due can c.in-Ok.ensures.ok c.core.invariant

pub invariant_of-core-2 : goal.invariant_of-core-2
invariant_of-core-2 g c =
    let plain = plain_is (c.core.view_is ∙ c.begin_call.ensures) in
    let x : PartsValue = c.core.inside.parts in
    let low = subst CanCount (sym plain) c.requires.low in
    let due = subst (λ (p : Plain). IsDue c.args.from.now p) (sym plain) c.requires.due in
    let can = subst (λ (p : Plain). CanSend c.args.to.now c.args.message p) (sym plain) c.requires.can in
    subst Tied (sym c.place.ensures) (turn_tied c.args.from.now c.args.to.now c.args.message x c.make_put_room.new.parts low due can c.in-Ok.ensures.ok c.core.invariant)

pub returns-clause-meets : goal.returns-clause-meets
returns-clause-meets g c =
    let v = c.core.view_is ∙ c.begin_call.ensures in
    let plain = plain_is v in
    let x : PartsValue = c.core.inside.parts in
    let y : PartsValue = c.make_put_room.new.parts in
    let low = subst CanCount (sym plain) c.requires.low in
    let due = subst (λ (p : Plain). IsDue c.args.from.now p) (sym plain) c.requires.due in
    let can = subst (λ (p : Plain). CanSend c.args.to.now c.args.message p) (sym plain) c.requires.can in
    let is = ap plain_of c.place.ensures ∙ turn_view c.args.from.now c.args.to.now c.args.message x y low due can c.in-Ok.ensures.ok c.core.invariant ∙ ap (apply_all (sent_part c.args.from.now c.args.to.now c.args.message).changes) plain in
    let told = ap (λ (t : Telling). t.dids) c.tell.ensures ∙ ap (λ (ds : List Did). ds ++ did.Placed c.args.to.now c.args.message.ident None ∷ []) (c.make_put_room.ensures.dids ∙ ap (λ (w : CoreValue). w.delta) v) in
    let stopped = ap (λ (w : CoreValue). w.stopped) v in
    let faults = ap (λ (z : PartsValue). z.log.faults) c.place.ensures ∙ ap (λ (z : PartsValue). z.log.faults) c.in-Ok.ensures.ok.same ∙ ap (λ (w : CoreValue). w.faults) v in
    (refl, (λ some. some), omega (arith, faults), (λ i. record { plain = is i; delta = told i; stopped = stopped i; faults = c.place.new.parts.log.faults }))

pub returns-in-Err-clause-told : goal.returns-in-Err-clause-told
returns-in-Err-clause-told g c = roomier_bodies c.core.inside.parts c.make_put_room.new.parts c.in-Err.ensures.err ∙ ap (λ (w : CoreValue). w.log) (c.core.view_is ∙ c.begin_call.ensures)

pub returns-clause-told : goal.returns-clause-told
returns-clause-told g c = (
  ap (λ (z : PartsValue). bodies_in z.log) c.place.ensures
      ∙ expected_bodies c.args.to.now 0 c.core.inside.parts c.make_put_room.new.parts c.in-Ok.ensures.ok
      ∙ ap (λ (w : CoreValue). w.log) (c.core.view_is ∙ c.begin_call.ensures),
  (tt, tt),
)
