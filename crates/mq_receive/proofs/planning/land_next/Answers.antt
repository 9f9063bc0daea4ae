use Rattle.std.proofs.Common.{refl, subst}
use Rattle.std.specs.Prelude.{List, Ok, Err}
use Rattle.mq_calls.specs.Words.{Plain}
use Rattle.mq_spec_manager.specs.Agents.{land}
use Rattle.mq_core.specs.declared.parts.Arrival.{Arrival}
use Rattle.mq_core.specs.Views.{plain_of}
use Rattle.mq_receive.specs.Ahead.{IsAhead}
use Rattle.mq_receive.specs.Arriving.{Lands}
use Rattle.mq_receive.proofs.PlanLaws.{land_fails, land_goes}
use Rattle.mq_receive.proofs.planning.land_next.Goals as goal

pub returns-in-Err : goal.returns-in-Err
returns-in-Err g c = λ whole rest h.
    land_fails whole c.args.channel.now c.args.landed.now _ c.args.message.now rest (plain_of c.args.parts.now) c.args.dropped c.in-Err.fault c.requires.standing
    (subst (λ (ys : List Arrival). (q : Plain) → IsAhead ys (plain_of c.args.parts.now) q → Lands (land c.args.channel.now c.args.message.now q) c.args.dropped (Err c.in-Err.fault)) c.as_slice.ensures c.in-Err.ensures) h

pub returns-in-Ok-push : goal.returns-in-Ok-push
returns-in-Ok-push g c = λ whole rest h.
    land_goes whole c.args.channel.now c.args.landed.now _ c.args.message.now rest (plain_of c.args.parts.now) c.args.dropped c.in-Ok.arrival c.requires.standing
    (subst (λ (ys : List Arrival). (q : Plain) → IsAhead ys (plain_of c.args.parts.now) q → Lands (land c.args.channel.now c.args.message.now q) c.args.dropped (Ok c.in-Ok.arrival)) c.as_slice.ensures c.in-Ok.ensures) c.in-Ok-push.ensures.ok h

pub returns-in-Err-push : goal.returns-in-Err-push
returns-in-Err-push g c = λ whole rest h. refl
