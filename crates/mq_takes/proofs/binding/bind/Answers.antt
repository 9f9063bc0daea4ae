use Rattle.std.proofs.Common.{sym, subst, true}
use Rattle.std.specs.Prelude.{Ok}
use Rattle.mq_spec_manager.specs.Agents.{IsUp}
use Rattle.mq_core.specs.Values.{CoreValue}
use Rattle.mq_turn_parts.proofs.from_manager.CallLaws.{kept_bound}
use Rattle.mq_takes.proofs.binding.bind.Goals as goal

pub invariant_of-manager : goal.invariant_of-manager
invariant_of-manager g c = kept_bound g.D.Disk.tells c.manager.inside.read c.manager.inside.core c.bind_in.new.core c.manager.invariant (subst (λ (v : CoreValue). IsUp v.plain) (sym c.manager.view_is) c.requires.up) c.args.channel.now true (Ok tt) c.bind_in.ensures.meets c.bind_in.ensures.told
