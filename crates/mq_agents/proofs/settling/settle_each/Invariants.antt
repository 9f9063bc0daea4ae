use Rattle.std.proofs.Common.{◌≡◌, drop}
use Rattle.mq_agents.specs.Settling.{each_settled}
use Rattle.mq_agents.proofs.settling.settle_each.Given as goal

abbrev pub invariant-loop-row : goal.invariant-loop-row
invariant-loop-row g l = each_settled l.commit (drop l.row-index l.rows) l.parts ≡ each_settled l.commit l.rows l.fn.parts
