use Rattle.std.proofs.Common.{sym}
use Rattle.mq_events.proofs.EventLaws.{none_yet, none_serves}
use Rattle.mq_events.proofs.state.NodeParts.serve_next.Goals as goal

pub returns-in-None-clause-did : goal.returns-in-None-clause-did
returns-in-None-clause-did g c = none_serves c.args.self.now (none_yet c.args.self.now c.requires.kept (sym c.in-None.ensures))
