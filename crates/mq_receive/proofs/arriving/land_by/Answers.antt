use Rattle.std.proofs.Common.{ap, subst, ◌∙◌}
use Rattle.std.specs.Prelude.{List, Result}
use Rattle.mq_resolve.specs.Resolved.{resolve}
use Rattle.mq_calls.specs.Words.{Dest, PathStep, Reason, Route}
use Rattle.mq_core.specs.Views.{PartsValue, plain_of}
use Rattle.mq_receive.specs.Ahead.{depth_ahead, resolved_at}
use Rattle.mq_receive.specs.Arriving.{Lands}
use Rattle.mq_receive.proofs.AheadLaws.{found_route}
use Rattle.mq_receive.proofs.arriving.land_by.Goals as goal

pub returns-in-Ok : goal.returns-in-Ok
unfolding found_route
returns-in-Ok g c =
    let p = plain_of c.args.parts.now in
    let x : PartsValue = c.args.parts.now in
    let m = c.args.message.now in
    let found =
    c.in-Ok.ensures.answer ∙ ap (λ (z : PartsValue). resolve z.defs.definitions z.name c.names_of-names.result.queue c.names_of-names.result.qmgr) c.parts.view_is
    ∙ ap (λ (d : Dest). resolve x.defs.definitions x.name d.queue d.qmgr) c.names_of-names.ensures
    in
    subst (λ (r : Result Route Reason). Lands (resolved_at r c.args.channel.now m p (depth_ahead c.args.landed.now p)) c.args.dropped c.land_routed.result)
    (ap (λ (path : List PathStep). found_route c.in-Ok.route.end path) c.as_slice-path.ensures.steps ∙ found) c.land_routed.ensures

pub returns-in-Err : goal.returns-in-Err
returns-in-Err g c =
    let p = plain_of c.args.parts.now in
    let x : PartsValue = c.args.parts.now in
    let m = c.args.message.now in
    let found =
    c.in-Err.ensures.answer ∙ ap (λ (z : PartsValue). resolve z.defs.definitions z.name c.names_of-names.result.queue c.names_of-names.result.qmgr) c.parts.view_is
    ∙ ap (λ (d : Dest). resolve x.defs.definitions x.name d.queue d.qmgr) c.names_of-names.ensures
    in
    subst (λ (r : Result Route Reason). Lands (resolved_at r c.args.channel.now m p (depth_ahead c.args.landed.now p)) c.args.dropped c.dead_letter.result) found c.dead_letter.ensures
