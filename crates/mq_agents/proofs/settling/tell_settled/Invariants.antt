use Rattle.mq_spec_manager.specs.Agents.{settle_did}
use Rattle.mq_agents.proofs.TellLaws.{TellsLeft}
use Rattle.mq_agents.proofs.settling.tell_settled.Given as goal

abbrev pub invariant-loop-row : goal.invariant-loop-row
invariant-loop-row l = TellsLeft (settle_did l.commit) l.rows l.row-index l.fn.effects l.effects
