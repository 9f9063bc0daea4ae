use Rattle.std.proofs.Common.{ℕ, ◌+◌, ap, sym, subst, ◌∙◌}
use Rattle.std.specs.Prelude.{List, Option, length}
use Rattle.mq_calls.specs.Words.{Reason, depth, refusal}
use Rattle.mq_spec_manager.specs.Words.{queue_at}
use Rattle.mq_core.specs.Views.{plain_of}
use Rattle.mq_moves.specs.Landed.{route_by, tests_at}
use Rattle.mq_receive.specs.Ahead.{times_on, depth_ahead, tested_at}
use Rattle.mq_receive.specs.Arriving.{Lands}
use Rattle.mq_receive.proofs.arriving.land_routed.Goals as goal

pub returns-in-None : goal.returns-in-None
returns-in-None g c =
    let p = plain_of c.args.parts.now in
    let m = c.args.message.now in
    let route = route_by c.args.end.now c.args.path.now in
    let is =
    c.refused_by.ensures.value
    ∙ ap (λ (n : ℕ). refusal (tests_at route n p (depth (queue_at c.args.end.now) p + c.times_on-more.result))) c.len.ensures
    ∙ ap (λ (n : ℕ). refusal (tests_at route (length m.body) p (depth (queue_at c.args.end.now) p + n))) (c.times_on-more.ensures ∙ ap (λ (q : List ℕ). times_on q c.args.landed.now) c.queue_at.ensures)
    in
    subst (λ (o : Option Reason). Lands (tested_at o route c.args.channel.now m p (depth_ahead c.args.landed.now p)) c.args.dropped c.arrival_by_route.result) (sym c.in-None.is ∙ is)
    (c.arrival_by_route.ensures c.args.path.now)

pub returns-in-Some : goal.returns-in-Some
returns-in-Some g c =
    let p = plain_of c.args.parts.now in
    let m = c.args.message.now in
    let route = route_by c.args.end.now c.args.path.now in
    let is =
    c.refused_by.ensures.value
    ∙ ap (λ (n : ℕ). refusal (tests_at route n p (depth (queue_at c.args.end.now) p + c.times_on-more.result))) c.len.ensures
    ∙ ap (λ (n : ℕ). refusal (tests_at route (length m.body) p (depth (queue_at c.args.end.now) p + n))) (c.times_on-more.ensures ∙ ap (λ (q : List ℕ). times_on q c.args.landed.now) c.queue_at.ensures)
    in
    subst (λ (o : Option Reason). Lands (tested_at o route c.args.channel.now m p (depth_ahead c.args.landed.now p)) c.args.dropped c.dead_letter.result) (sym c.in-Some.is ∙ is) c.dead_letter.ensures
