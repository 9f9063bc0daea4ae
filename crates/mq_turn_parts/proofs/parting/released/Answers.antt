use Rattle.std.proofs.Common.{sym, subst}
use Rattle.mq_calls.specs.declared.choices.Choice.{Choice}
use Rattle.mq_calls.specs.Meeting.Wants.{Nowhere}
use Rattle.mq_spec_node.specs.Words.{parts_of}
use Rattle.mq_spec_manager.specs.Agents.{release_batch}
use Rattle.mq_turn_parts.specs.Turns.{Made}
use Rattle.mq_turn_parts.proofs.PartLaws.{ran_made}
use Rattle.mq_turn_parts.proofs.parting.released.Goals as goal

pub returns : goal.returns
returns g c =
    let M : Choice → Type 0 = λ x. Made (parts_of (release_batch c.args.channel.now c.args.manager.now.plain)) x c.ran.result.delta c.args.manager.now c.ran.new.manager in
    subst M (sym c.ran.ensures.choice)
    (ran_made Nowhere (release_batch c.args.channel.now c.args.manager.now.plain) tt c.ran.result.delta c.args.manager.now c.release_batch.new.self c.ran.new.manager c.release_batch.ensures.meets c.ran.ensures.delta c.ran.ensures.left)
