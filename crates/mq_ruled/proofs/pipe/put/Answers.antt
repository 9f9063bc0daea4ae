use Rattle.std.proofs.Common.{ap}
use Rattle.mq_ruled.specs.declared.rule.PassView.{PassView}
use Rattle.mq_ruled.proofs.Rules.{pushes, learns}
use Rattle.mq_ruled.proofs.pipe.put.Goals as goal

pub push_as-requires-clause-rule : goal.push_as-requires-clause-rule
push_as-requires-clause-rule g c =
    (pushes _ _ _ _ c.requires.pass.1 (ap (λ (v : PassView). v.pushes) c.requires.view.0) c.requires.low, learns _ _)
