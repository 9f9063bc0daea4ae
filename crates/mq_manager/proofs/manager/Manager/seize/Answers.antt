use Rattle.std.proofs.Common.{sym, subst}
use Rattle.mq_spec_manager.specs.Agents.{IsUp}
use Rattle.mq_receive.specs.from_core.Values.{CoreValue}
use Rattle.mq_receive.specs.from_agents.Ends.{by_seize}
use Rattle.mq_manager.proofs.CallLaws.{kept_seize}
use Rattle.mq_manager.proofs.manager.Manager.seize.Goals as goal

pub invariant_of-self : goal.invariant_of-self
invariant_of-self g c = kept_seize g.D.Disk.tells c.self.inside.read c.self.inside.core c.seize.new.core c.self.invariant (subst (λ (v : CoreValue). IsUp v.plain) (sym c.self.view_is) c.requires.up) c.args.channel.now (by_seize c.seize.result) c.seize.ensures.meets c.seize.ensures.told
