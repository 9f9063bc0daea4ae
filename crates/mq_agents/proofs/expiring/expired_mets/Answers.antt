use Rattle.std.proofs.Common.{◌≡◌, ◌∙◌, ℕ, ap, subst}
use Rattle.std.specs.Prelude.{IfOk, map, filter}
use Rattle.mq_queue.specs.Rows.{is_free}
use Rattle.mq_get.specs.from_scan.Scans.{met_of}
use Rattle.mq_place.specs.States.{state_in}
use Rattle.mq_core.specs.Views.{PartsValue}
use Rattle.mq_agents.specs.Expiring.{is_past_row}
use Rattle.mq_agents.proofs.ExpireLaws.{past_in}
use Rattle.mq_agents.proofs.expiring.expired_mets.Goals as goal

pub returns-in-Some : goal.returns-in-Some
returns-in-Some g c =
    let local = c.in-Some.local.now in
    past_in c.args.queue.now c.args.parts.now local c.past_rows.result (c.in-Some.ensures.value ∙ ap (λ (p : PartsValue). state_in c.args.queue.now p.queues.states) c.parts.view_is)
    (subst (λ (moment : ℕ). IfOk c.past_rows.result (λ mets. mets ≡ map met_of (filter (is_past_row moment) (filter is_free local.queue.rows)))) (ap (λ (p : PartsValue). p.moment) c.parts.view_is) c.past_rows.ensures)
