use Rattle.std.proofs.Common.{drop}
use Rattle.mq_spec_manager.specs.Agents.{landed}
use Rattle.mq_core.specs.Views.{plain_of}
use Rattle.mq_receive.specs.Planned.{IsPlan}
use Rattle.mq_receive.proofs.planning.plan.Given as goal

abbrev pub invariant-loop-message : goal.invariant-loop-message
invariant-loop-message g l = IsPlan (landed l.channel l.batch (plain_of l.fn.parts)) l.channel l.landed (drop l.message-index l.batch) (plain_of l.fn.parts)
