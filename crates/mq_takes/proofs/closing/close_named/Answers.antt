use Rattle.std.proofs.Common.{false}
use Rattle.mq_calls.specs.declared.agents.Note.TheVariants as notes
use Rattle.mq_spec_manager.specs.Agents.{harden}
use Rattle.mq_spec_node.specs.Words.{parts_of}
use Rattle.mq_takes.proofs.WorkLaws.{made_bound}
use Rattle.mq_takes.proofs.closing.close_named.Goals as goal

pub returns-in-Ok : goal.returns-in-Ok
returns-in-Ok g c =
    made_bound (parts_of (harden c.args.channel.now (notes.Closed c.args.session) c.args.manager.now.plain)) c.args.channel.now false c.in-Ok.told.choice c.in-Ok.told.delta c.args.manager.now c.hardened.new.manager c.unbind_if.new.manager c.in-Ok.ensures c.unbind_if.ensures
