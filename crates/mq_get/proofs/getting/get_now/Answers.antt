use Rattle.std.proofs.Common.{◌≡◌, ◌<◌, [], sym, ap, subst, ◌∙◌}
use Rattle.std.specs.Prelude.{Option, None, IsSome}
use Rattle.mq_disk.specs.declared.cutter.Stop.{Stop}
use Rattle.mq_calls.specs.Words.{Reason, Plain, Step, connection_at, is_up}
use Rattle.mq_calls.specs.declared.answers.GetAnswer.{GetAnswer}
use Rattle.mq_spec_manager.specs.Words.{persistent_rows, expired_need}
use Rattle.mq_core.specs.Views.{PartsValue, plain_of, frozen_of}
use Rattle.mq_core.specs.Values.{CoreValue, MeetsTold, begun_call}
use Rattle.mq_core.proofs.MeetLaws.{some_is, mode_up}
use Rattle.mq_get.specs.Does.{seen, stop_of}
use Rattle.mq_get.specs.Gets.{look, get_at}
use Rattle.mq_get.proofs.WayLaws.{meets_begun, planned_at, short_plan}
use Rattle.mq_get.proofs.getting.get_now.Goals as goal

plain_is : {v w : CoreValue} → v ≡ w → v.plain ≡ w.plain
plain_is e = ap (λ (x : CoreValue). x.plain) e

pub do_get-result-requires-clause-may : goal.do_get-result-requires-clause-may
do_get-result-requires-clause-may g c =
    let v = c.core.view_is ∙ c.begin_call.ensures in
    let plain = plain_is v in
    let x : PartsValue = c.core.inside.parts in
    record {
      tied = c.core.invariant;
      up = mode_up (frozen_of x) x.mode (ap (λ (p : Plain). is_up p.running) plain ∙ c.requires.up);
      told = ap (λ (w : CoreValue). w.delta) v;
      short = short_plan c.args.get.now c.args.aim.now (plain_of x) c.in-Ok.plan c.in-Ok.ensures
          (subst (λ (p : Plain). expired_need (persistent_rows (look c.args.get.now c.args.aim.now p).expired) < 4294967296) (sym plain) c.requires.short);
    }

pub do_get-result-requires-clause-live : goal.do_get-result-requires-clause-live
do_get-result-requires-clause-live g c =
    let plain = plain_is (c.core.view_is ∙ c.begin_call.ensures) in
    subst (λ (p : Plain). IsSome (connection_at c.args.number p.connections)) (sym plain) c.requires.live

pub returns : goal.returns
returns g c =
    let v = c.core.view_is ∙ c.begin_call.ensures in
    let plain = plain_is v in
    let x : PartsValue = c.core.inside.parts in
    let live = some_is _ c.requires.live in
    let found = ap (λ (p : Plain). connection_at c.args.number p.connections) plain ∙ live.1 in
    let new = λ (s : Option Stop). seen c.do_get-result.new.parts c.do_get-result.new.effects.dids s in
    let step = planned_at c.args.number c.args.get.now c.args.until c.args.aim.now (plain_of x) live.0 c.in-Ok.plan found c.in-Ok.ensures ∙ ap (get_at c.args.number c.args.get.now c.args.until c.args.aim.now) plain in
    let begun : seen x [] None ≡ begun_call c.args.core.now = (λ i. record { plain = plain i; delta = []; stopped = None; faults = (v i).faults; log = (v i).log }) in
    meets_begun (get_at c.args.number c.args.get.now c.args.until c.args.aim.now c.args.core.now.plain) c.args.core.now _ c.do_get-result.result
    (subst (λ (s : Option Stop). MeetsTold (begun_call c.args.core.now) (get_at c.args.number c.args.get.now c.args.until c.args.aim.now c.args.core.now.plain) c.do_get-result.result (new s)) (sym c.stop_of-core-inside.ensures)
    (subst (λ (w : CoreValue). MeetsTold w (get_at c.args.number c.args.get.now c.args.until c.args.aim.now c.args.core.now.plain) c.do_get-result.result (new (stop_of c.do_get-result.result))) begun
    (subst (λ (s : Step Reason GetAnswer). MeetsTold (seen x [] None) s c.do_get-result.result (new (stop_of c.do_get-result.result))) step c.do_get-result.ensures.meets)))
