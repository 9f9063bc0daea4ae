use Rattle.std.proofs.Common.{sym, subst}
use Rattle.mq_spec_manager.specs.Agents.{IsUp, CanPrepare}
use Rattle.mq_receive.specs.from_core.Values.{CoreValue}
use Rattle.mq_receive.specs.from_agents.Ends.{by_prepare}
use Rattle.mq_manager.proofs.CallLaws.{kept_prepared}
use Rattle.mq_manager.proofs.manager.Manager.prepare.Goals as goal

pub invariant_of-self : goal.invariant_of-self
invariant_of-self g c = kept_prepared g.D.Disk.tells c.self.inside.read c.self.inside.core c.prepare_named.new.core c.self.invariant (subst (λ (v : CoreValue). IsUp v.plain) (sym c.self.view_is) c.requires.up) c.args.channel.now c.args.last (by_prepare c.prepare_named.result) (subst (λ (v : CoreValue). CanPrepare c.args.channel.now v.plain) (sym c.self.view_is) c.requires.can) c.prepare_named.ensures.unfit c.prepare_named.ensures.meets c.prepare_named.ensures.told
