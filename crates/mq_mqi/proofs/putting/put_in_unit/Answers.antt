use Rattle.std.proofs.Common.{◌≡◌, ◌<◌, ◌∙◌, sym, ap, subst, refl, arith}
use Rattle.std.specs.Prelude.{[], ◌∷◌, ◌++◌, Ok, IsSome, true}
use Rattle.mq_calls.specs.Words.{ManagerValue, Plain, Meets, local_of, is_up, apply_all}
use Rattle.mq_calls.specs.declared.answers.Answer.{Answer}
use Rattle.mq_calls.specs.declared.answers.Sent.{Sent}
use Rattle.mq_calls.specs.State.Change.{CountIdent, Pend}
use Rattle.mq_spec_manager.specs.Words.{next_ident, sent_answer}
use Rattle.mq_core.specs.Views.{PartsValue, plain_of, frozen_of}
use Rattle.mq_core.specs.Calls.{unit_step, unit_call}
use Rattle.mq_mqi.specs.Puts.{}
use Rattle.mq_core.proofs.MeetLaws.{mode_up}
use Rattle.mq_core.proofs.PutLaws.{tied_roomier, roomier_view}
use Rattle.mq_calls.specs.Words.{connection_at, is_persistent, unit_need, more_need, put_bytes}
use Rattle.mq_calls.specs.declared.state.Connection.{Connection}
use Rattle.mq_calls.specs.declared.state.Item.TheVariants.{Put}
use Rattle.mq_core.proofs.MeetLaws.{some_is, if_some, some_of, wanting_at}
use Rattle.mq_core.proofs.PendLaws.{tied_pended, pended_view, pended_meets, need_push, need_small, unit_small}
use Rattle.mq_core.specs.Values.{CoreValue, manager_of}
use Rattle.mq_core.proofs.WriteLaws.{roomier_bodies, pended_bodies, writes_at}
use Rattle.mq_mqi.proofs.putting.put_in_unit.Goals as goal

plain_is : {v w : CoreValue} → v ≡ w → v.plain ≡ w.plain
plain_is e = ap (λ (x : CoreValue). x.plain) e

pub invariant_of-core : goal.invariant_of-core
invariant_of-core g c = tied_roomier c.core.inside.parts c.pend_put.new.self c.in-Err.ensures.err c.core.invariant

pub returns-in-Err-clause-meets : goal.returns-in-Err-clause-meets
returns-in-Err-clause-meets g c =
    let v = c.core.view_is ∙ c.begin_call.ensures in
    let h = c.in-Err.ensures.err in
    let plain = roomier_view c.core.inside.parts c.pend_put.new.self h ∙ plain_is v in
    let faults = ap (λ (x : PartsValue). x.log.faults) h.same ∙ ap (λ (x : CoreValue). x.faults) v in
    let live = some_is _ c.requires.live in
    wanting_at (manager_of c.args.core.now) _ c.args.number live.0 (unit_call c.args.high c.args.queue.now c.args.message) (sent_answer c.args.high c.args.message) _ live.1 refl
    (λ i. record { plain = plain i; delta = (v i).delta; stopped = (v i).stopped; faults = faults i })

pub pend_put-requires-clause-live : goal.pend_put-requires-clause-live
pend_put-requires-clause-live g c =
    let plain = plain_is (c.core.view_is ∙ c.begin_call.ensures) in
    let x : PartsValue = c.core.inside.parts in
    let up = mode_up (frozen_of x) x.mode (ap (λ (p : Plain). is_up p.running) plain ∙ c.requires.up) in
    (c.core.invariant.up up).live

pub returns-clause-meets : goal.returns-clause-meets
returns-clause-meets g c =
    let v = c.core.view_is ∙ c.begin_call.ensures in
    let plain = plain_is v in
    let x : PartsValue = c.core.inside.parts in
    let y : PartsValue = c.pend_put.new.self in
    let live = some_is _ c.requires.live in
    let found = ap (λ (p : Plain). connection_at c.args.number p.connections) plain ∙ live.1 in
    let up = mode_up (frozen_of x) x.mode (ap (λ (p : Plain). is_up p.running) plain ∙ c.requires.up) in
    let p = c.in-Ok.ensures.ok in
    let done = pended_view c.args.number c.args.queue.now c.args.message _ live.0 x y up found p ∙ ap (λ (q : Plain). apply_all (CountIdent ∷ Pend live.0.number (Put c.args.queue.now c.args.message) ∷ []) q) plain in
    let faults = ap (λ (z : PartsValue). z.log.faults) p.same ∙ ap (λ (w : CoreValue). w.faults) v in
    let new : ManagerValue = record { plain = plain_of c.pend_put.new.self; delta = c.core.inside.effects.dids; stopped = c.core.inside.stopped; faults = c.pend_put.new.self.log.faults } in
    subst (λ (a : Answer Sent). Meets (manager_of c.args.core.now) (unit_step c.args.number c.args.high c.args.queue.now c.args.message c.args.core.now.plain) (Ok a) new) (sym c.sent_answer-sent.ensures)
    (pended_meets (manager_of c.args.core.now) new c.args.number c.args.high c.args.queue.now c.args.message live.0 live.1 done (ap (λ (w : CoreValue). w.delta) v) (ap (λ (w : CoreValue). w.stopped) v) faults)

pub invariant_of-core-2 : goal.invariant_of-core-2
invariant_of-core-2 g c =
    let plain = plain_is (c.core.view_is ∙ c.begin_call.ensures) in
    let x : PartsValue = c.core.inside.parts in
    let live = some_is _ c.requires.live in
    let found = ap (λ (p : Plain). connection_at c.args.number p.connections) plain ∙ live.1 in
    let n = c.unit_put_need-need.result in
    let some = λ (e : is_persistent c.args.message ≡ true). if_some (λ (d : Connection). n ≡ more_need d.unit (put_bytes c.args.message)) _ live.0 found (c.unit_put_need-need.ensures.some e) in
    let more = need_push live.0.unit c.args.queue.now c.args.message n some c.unit_put_need-need.ensures.none in
    let there = subst (λ (p : Plain). IsSome (local_of c.args.queue.now p.definitions)) (sym plain) c.requires.there in
    let ident = c.requires.ident ∙ ap next_ident (sym plain) in
    tied_pended c.args.number c.args.queue.now c.args.message n live.0 x c.pend_put.new.self there found ident more c.requires.kept c.in-Ok.ensures.ok c.core.invariant

pub pend_put-requires-clause-need : goal.pend_put-requires-clause-need
pend_put-requires-clause-need g c =
    let plain = plain_is (c.core.view_is ∙ c.begin_call.ensures) in
    let x : PartsValue = c.core.inside.parts in
    let live = some_is _ c.requires.live in
    let found = ap (λ (p : Plain). connection_at c.args.number p.connections) plain ∙ live.1 in
    let n = c.unit_put_need-need.result in
    let some = λ (e : is_persistent c.args.message ≡ true). if_some (λ (d : Connection). n ≡ more_need d.unit (put_bytes c.args.message)) _ live.0 found (c.unit_put_need-need.ensures.some e) in
    let more = need_push live.0.unit c.args.queue.now c.args.message n some c.unit_put_need-need.ensures.none in
    some_of (λ (d : Connection). unit_need (d.unit ++ Put c.args.queue.now c.args.message ∷ []) < 18446744073709551616) _ live.0 found
    (unit_small c.args.number c.args.message n c.args.queue.now live.0 x found more (need_small live.0.unit c.args.message n some c.unit_put_need-need.ensures.none c.requires.kept) (mode_up (frozen_of x) x.mode (ap (λ (p : Plain). is_up p.running) plain ∙ c.requires.up)) c.core.invariant)

pub pend_put-requires-clause-idents : goal.pend_put-requires-clause-idents
pend_put-requires-clause-idents g c =
    let plain = plain_is (c.core.view_is ∙ c.begin_call.ensures) in
    let idents = ap (λ (p : Plain). p.numbers.idents) plain in
    omega (arith, idents, c.requires.low.idents)

pub returns-in-Err-clause-told : goal.returns-in-Err-clause-told
returns-in-Err-clause-told g c =
    let live = some_is _ c.requires.live in
    writes_at c.args.core.now _ c.args.number live.0 (unit_call c.args.high c.args.queue.now c.args.message) _ live.1
    (roomier_bodies c.core.inside.parts c.pend_put.new.self c.in-Err.ensures.err ∙ ap (λ (w : CoreValue). w.log) (c.core.view_is ∙ c.begin_call.ensures))

pub returns-clause-told : goal.returns-clause-told
returns-clause-told g c =
    let live = some_is _ c.requires.live in
    writes_at c.args.core.now _ c.args.number live.0 (unit_call c.args.high c.args.queue.now c.args.message) _ live.1
    (pended_bodies c.args.number c.args.queue.now c.args.message _ c.core.inside.parts c.pend_put.new.self c.in-Ok.ensures.ok ∙ ap (λ (w : CoreValue). w.log) (c.core.view_is ∙ c.begin_call.ensures), (tt, tt))
