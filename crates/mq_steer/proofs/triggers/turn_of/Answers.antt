use Rattle.mq_core.specs.Views.{plain_of}
use Rattle.mq_steer.proofs.TurnLaws.{turn_by}
use Rattle.mq_steer.proofs.triggers.turn_of.Goals as goal

pub returns : goal.returns
returns g c = turn_by (plain_of c.args.parts.now) c.args.queue.now c.serve_by.result c.requires.up c.requires.first c.serve_by.ensures
