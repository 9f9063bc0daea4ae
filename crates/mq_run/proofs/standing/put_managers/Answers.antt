use Rattle.std.proofs.Common.{ap, ◌∙◌}
use Rattle.mq_world.specs.Words.{RestState}
use Rattle.mq_run.proofs.RestLaws.{all_stand}
use Rattle.mq_run.proofs.standing.put_managers.Goals as goal

pub returns : goal.returns
returns g c =
    all_stand c.loop-manager.managers c.as_slice-manager-items.result.now c.args.rested.now.managers c.loop-manager.manager-index
    (c.as_slice-manager-items.ensures.value ∙ ap (λ (w : RestState). w.managers) c.rested.view_is) c.loop-manager-test.false c.loop-manager.invariant
