use Rattle.std.proofs.Common.{sym, ap, ◌∙◌, arith}
use Rattle.mq_spec_manager.specs.Words.{Scan, persistent_rows}
use Rattle.mq_core.specs.from_place.States.{state_in}
use Rattle.mq_scan.specs.Scans.{scan_of}
use Rattle.mq_core.specs.Views.{PartsValue, plain_of}
use Rattle.mq_get.proofs.SurveyLaws.{none_full, look_some, many_by, full_is}
use Rattle.mq_get.proofs.refusals.is_log_full.Goals as goal

pub returns-in_default : goal.returns-in_default
returns-in_default g c = sym (none_full c.args.get.now c.args.aim.now c.args.seat.now c.args.parts.now (sym (ap (λ (x : PartsValue). state_in c.args.aim.now.queue x.queues.states) c.parts.view_is) ∙ sym c.in_default.ensures.value))

pub returns-then-lasting-ge100000000 : goal.returns-then-lasting-ge100000000
returns-then-lasting-ge100000000 g c =
    let x : PartsValue = c.args.parts.now in
    let s : Scan = scan_of c.args.get.now c.args.aim.now.cursor (plain_of x) c.in-Some.local.now.queue.rows in
    let lasting = c.survey-row.ensures.lasting (plain_of x) (sym (ap (λ (x : PartsValue). x.moment) c.parts.view_is)) in
    sym (many_by c.args.get.now c.args.aim.now c.args.seat.now x s (look_some c.args.get.now c.args.aim.now x c.in-Some.local.now (sym (ap (λ (x : PartsValue). state_in c.args.aim.now.queue x.queues.states) c.parts.view_is) ∙ sym c.in-Some.ensures.value)) c.requires.tied.max (omega (arith, lasting, c.if-lasting-ge100000000.true)))

pub returns : goal.returns
returns g c =
    let x : PartsValue = c.args.parts.now in
    let s : Scan = scan_of c.args.get.now c.args.aim.now.cursor (plain_of x) c.in-Some.local.now.queue.rows in
    full_is c.is_full.result c.expired_need.result c.found_need.result c.args.get.now c.args.seat.now (plain_of x) s _ _ c.is_full.ensures (c.expired_need.ensures.value (persistent_rows s.expired) (sym (c.survey-row.ensures.lasting (plain_of x) (sym (ap (λ (x : PartsValue). x.moment) c.parts.view_is))))) c.found_need.ensures.value (c.survey-row.ensures.found (plain_of x) (sym (ap (λ (x : PartsValue). x.moment) c.parts.view_is)))
    (look_some c.args.get.now c.args.aim.now x c.in-Some.local.now (sym (ap (λ (x : PartsValue). state_in c.args.aim.now.queue x.queues.states) c.parts.view_is) ∙ sym c.in-Some.ensures.value))
