use Rattle.std.proofs.Common.{sym, subst}
use Rattle.mq_spec_manager.specs.Agents.{IsUp, HasFreeRow}
use Rattle.mq_receive.specs.from_core.Values.{CoreValue}
use Rattle.mq_receive.specs.from_agents.Ends.{by_agent}
use Rattle.mq_manager.proofs.CallLaws.{kept_discard}
use Rattle.mq_manager.proofs.manager.Manager.discard.Goals as goal

pub invariant_of-self : goal.invariant_of-self
invariant_of-self g c = kept_discard g.D.Disk.tells c.self.inside.read c.self.inside.core c.discard.new.core c.self.invariant (subst (λ (v : CoreValue). IsUp v.plain) (sym c.self.view_is) c.requires.up) c.args.from.now c.args.ident.now (by_agent c.discard.result) (subst (λ (v : CoreValue). HasFreeRow c.args.from.now c.args.ident.now v.plain) (sym c.self.view_is) c.requires.there) c.discard.ensures.meets c.discard.ensures.told
