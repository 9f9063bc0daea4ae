use Rattle.std.proofs.Common.{◌∙◌}
use Rattle.mq_events.specs.States.{node_in}
use Rattle.mq_idle.proofs.LookLaws.{looks_as}
use Rattle.mq_idle.proofs.cables.cable_idle.Goals as goal

pub returns : goal.returns
returns g c w h = c.looks_idle.ensures ∙ looks_as w c.args.number c.args.line.now (node_in c.args.sender.now) (node_in c.args.receiver.now) c.args.cable.now h
