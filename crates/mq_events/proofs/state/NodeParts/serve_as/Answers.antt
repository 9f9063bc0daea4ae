use Rattle.std.proofs.Common.{sym}
use Rattle.mq_events.proofs.EventLaws.{not_due, none_serves}
use Rattle.mq_events.proofs.state.NodeParts.serve_as.Goals as goal

pub returns-in-None-clause-did : goal.returns-in-None-clause-did
returns-in-None-clause-did g c = none_serves c.args.self.now (not_due c.args.self.now (sym c.in-None.ensures))
