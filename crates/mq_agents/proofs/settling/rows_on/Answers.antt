use Rattle.std.proofs.Common.{◌∙◌, ap, sym}
use Rattle.mq_place.specs.States.{state_in}
use Rattle.mq_core.specs.Views.{PartsValue}
use Rattle.mq_agents.proofs.WalkLaws.{none_held}
use Rattle.mq_agents.proofs.settling.rows_on.Goals as goal

pub returns-in-None-clause-rows : goal.returns-in-None-clause-rows
returns-in-None-clause-rows g c =
    none_held c.args.rows.now.rows c.args.most c.args.by.now c.args.queue.now c.args.parts.now.queues.states
    (sym (c.in-None.ensures.value ∙ ap (λ (p : PartsValue). state_in c.args.queue.now p.queues.states) c.parts.view_is))
