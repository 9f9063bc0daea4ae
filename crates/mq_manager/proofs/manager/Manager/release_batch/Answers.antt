use Rattle.std.proofs.Common.{sym, subst}
use Rattle.std.specs.Prelude.{Ok}
use Rattle.mq_spec_manager.specs.Agents.{IsUp}
use Rattle.mq_receive.specs.from_core.Values.{CoreValue}
use Rattle.mq_manager.proofs.CallLaws.{kept_release}
use Rattle.mq_manager.proofs.manager.Manager.release_batch.Goals as goal

pub invariant_of-self : goal.invariant_of-self
invariant_of-self g c = kept_release g.D.Disk.tells c.self.inside.read c.self.inside.core c.release_batch.new.core c.self.invariant (subst (λ (v : CoreValue). IsUp v.plain) (sym c.self.view_is) c.requires.up) c.args.channel.now (Ok tt) c.release_batch.ensures.meets c.release_batch.ensures.told
