use Rattle.std.proofs.Common.{true}
use Rattle.mq_calls.specs.declared.agents.Note.TheVariants as notes
use Rattle.mq_spec_manager.specs.Agents.{harden}
use Rattle.mq_spec_node.specs.Words.{parts_of}
use Rattle.mq_takes.proofs.WorkLaws.{made_bound}
use Rattle.mq_takes.proofs.binding.harden_bound.Goals as goal

pub returns-in-Ok : goal.returns-in-Ok
returns-in-Ok g c =
    made_bound (parts_of (harden c.args.channel.now (notes.Bound c.args.partner c.args.session c.args.last) c.args.manager.now.plain)) c.args.channel.now true c.in-Ok.told.choice c.in-Ok.told.delta c.args.manager.now c.hardened.new.manager c.bind_if.new.manager c.in-Ok.ensures c.bind_if.ensures
