use Rattle.std.proofs.Common.{sym, subst}
use Rattle.mq_spec_manager.specs.Agents.{IsUp, CanHold}
use Rattle.mq_receive.specs.from_core.Values.{CoreValue}
use Rattle.mq_receive.specs.from_agents.Ends.{by_memory}
use Rattle.mq_manager.proofs.CallLaws.{kept_hold}
use Rattle.mq_manager.proofs.manager.Manager.hold_batch.Goals as goal

pub invariant_of-self : goal.invariant_of-self
invariant_of-self g c = kept_hold g.D.Disk.tells c.self.inside.read c.self.inside.core c.hold_batch.new.core c.self.invariant (subst (λ (v : CoreValue). IsUp v.plain) (sym c.self.view_is) c.requires.up) c.args.channel.now c.args.unit.now c.args.most (by_memory c.hold_batch.result) (subst (λ (v : CoreValue). CanHold c.args.channel.now v.plain) (sym c.self.view_is) c.requires.can) c.hold_batch.ensures.meets c.hold_batch.ensures.told
