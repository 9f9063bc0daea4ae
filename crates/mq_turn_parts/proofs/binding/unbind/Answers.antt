use Rattle.std.proofs.Common.{sym, subst, false}
use Rattle.std.specs.Prelude.{Ok}
use Rattle.mq_spec_manager.specs.Agents.{IsUp}
use Rattle.mq_core.specs.Values.{CoreValue}
use Rattle.mq_turn_parts.proofs.from_manager.CallLaws.{kept_bound}
use Rattle.mq_turn_parts.proofs.binding.unbind.Goals as goal

pub invariant_of-manager : goal.invariant_of-manager
invariant_of-manager g c = kept_bound g.D.Disk.tells c.manager.inside.read c.manager.inside.core c.unbind_in.new.core c.manager.invariant (subst (λ (v : CoreValue). IsUp v.plain) (sym c.manager.view_is) c.requires.up) c.args.channel.now false (Ok tt) c.unbind_in.ensures.meets c.unbind_in.ensures.told
