use Rattle.std.proofs.Common.{ap, sym, subst}
use Rattle.std.specs.Prelude.{[], Err}
use Rattle.mq_calls.specs.Words.{MeetsOrWants, Reason, Step}
use Rattle.mq_spec_manager.specs.Agents.{landed}
use Rattle.mq_law_manager.specs.Facts.{Sound, AreNamed}
use Rattle.mq_moves.specs.from_agents.Ends.{by_place}
use Rattle.mq_core.specs.Values.{CoreValue, WritesLog, manager_of}
use Rattle.mq_receive.specs.Planned.{IsPlan, Plans}
use Rattle.mq_receive.proofs.PlanLaws.{plan_last}
use Rattle.mq_receive.proofs.EndingLaws.{plan_fails, plan_fails_told}
use Rattle.mq_receive.proofs.receiving.receive.Goals as goal

pub plan-requires-clause-sound : goal.plan-requires-clause-sound
plan-requires-clause-sound g c = subst (λ (w : CoreValue). Sound w.plain) (sym c.core.view_is) c.requires.sound

pub plan-requires-clause-named : goal.plan-requires-clause-named
plan-requires-clause-named g c = subst (λ (w : CoreValue). AreNamed w.plain.queues) (sym c.core.view_is) c.requires.named

pub receive_landed-requires-clause-fits : goal.receive_landed-requires-clause-fits
receive_landed-requires-clause-fits g c =
    (subst (λ (w : CoreValue). IsPlan (landed c.args.channel.now c.args.batch.now w.plain) c.args.channel.now c.in-Ok.landed [] w.plain) c.core.view_is c.in-Ok.ensures).fits

pub returns-in-Ok-clause-meets : goal.returns-in-Ok-clause-meets
returns-in-Ok-clause-meets g c =
    let h = subst (λ (w : CoreValue). IsPlan (landed c.args.channel.now c.args.batch.now w.plain) c.args.channel.now c.in-Ok.landed [] w.plain) c.core.view_is c.in-Ok.ensures in
    subst (λ (s : Step Reason (Unit {0})). MeetsOrWants (manager_of c.args.core.now) s (by_place c.receive_landed.result) (manager_of c.receive_landed.new.core))
    (sym (plan_last c.args.channel.now c.args.unit.now c.args.last c.args.batch.now c.in-Ok.landed c.args.core.now.plain h)) c.receive_landed.ensures.meets

pub returns-in-Ok-clause-told : goal.returns-in-Ok-clause-told
returns-in-Ok-clause-told g c =
    let h = subst (λ (w : CoreValue). IsPlan (landed c.args.channel.now c.args.batch.now w.plain) c.args.channel.now c.in-Ok.landed [] w.plain) c.core.view_is c.in-Ok.ensures in
    subst (λ (s : Step Reason (Unit {0})). WritesLog c.args.core.now s (by_place c.receive_landed.result) c.receive_landed.new.core)
    (sym (plan_last c.args.channel.now c.args.unit.now c.args.last c.args.batch.now c.in-Ok.landed c.args.core.now.plain h)) c.receive_landed.ensures.told

pub returns-in-Err-clause-meets : goal.returns-in-Err-clause-meets
returns-in-Err-clause-meets g c =
    plan_fails c.args.core.now c.begin_call.new.self c.args.channel.now c.args.unit.now c.args.last c.args.batch.now c.in-Err.fault
    (subst (λ (w : CoreValue). Plans c.args.channel.now c.args.batch.now w.plain (Err c.in-Err.fault)) c.core.view_is c.in-Err.ensures) (ap manager_of c.begin_call.ensures)

pub returns-in-Err-clause-told : goal.returns-in-Err-clause-told
returns-in-Err-clause-told g c =
    plan_fails_told c.args.core.now c.begin_call.new.self c.args.channel.now c.args.unit.now c.args.last c.args.batch.now c.in-Err.fault
    (subst (λ (w : CoreValue). Plans c.args.channel.now c.args.batch.now w.plain (Err c.in-Err.fault)) c.core.view_is c.in-Err.ensures) (ap (λ (w : CoreValue). w.log) c.begin_call.ensures)
