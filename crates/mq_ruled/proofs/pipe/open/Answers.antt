use Rattle.std.proofs.Common.{ap}
use Rattle.mq_ruled.specs.declared.rule.PassView.{PassView}
use Rattle.mq_ruled.proofs.Rules.{begins, forks}
use Rattle.mq_ruled.proofs.pipe.open.Goals as goal

pub ruled-requires-clause-rule : goal.ruled-requires-clause-rule
ruled-requires-clause-rule g c = begins

pub another-popper-requires-clause-rule : goal.another-popper-requires-clause-rule
another-popper-requires-clause-rule g c =
    forks _ _ (ap (λ (v : PassView). v.pushes) c.fill.ensures.pass.1) (ap (λ (v : PassView). v.pops) c.fill.ensures.pass.1)
