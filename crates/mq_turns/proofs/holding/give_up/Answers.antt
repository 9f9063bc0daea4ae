use Rattle.std.proofs.Common.{sym, subst}
use Rattle.mq_core.specs.Values.{CoreValue}
use Rattle.mq_spec_manager.specs.Agents.{HasBatch, IsUp}
use Rattle.mq_turns.proofs.GiveLaws.{give_behind, given_kept}
use Rattle.mq_turns.proofs.holding.give_up.Goals as goal

pub invariant_of-manager : goal.invariant_of-manager
invariant_of-manager g c =
    let channel = c.args.channel.now in
    given_kept g.D.Disk.tells c.manager.inside.read c.manager.inside.core c.give_up_in.new.core channel c.manager.invariant (subst (λ (v : CoreValue). IsUp v.plain) (sym c.manager.view_is) c.requires.up)
    (subst (λ (v : CoreValue). HasBatch channel v.plain) (sym c.manager.view_is) c.requires.batch) c.give_up_in.ensures.plain c.give_up_in.ensures.log

pub returns : goal.returns
returns g c = give_behind c.args.channel.now c.manager.inside.core c.args.manager.now c.give_up_in.new.core c.manager.view_is c.give_up_in.ensures.plain c.give_up_in.ensures.faults
