use Rattle.mq_acts.proofs.RestartLaws.{began_same}
use Rattle.mq_acts.proofs.restarting.begin_parts.Goals as goal

pub returns-in-None-clause-same : goal.returns-in-None-clause-same
returns-in-None-clause-same g c = began_same c.args.parts.now _ c.recount.new.self c.begin.new.own c.args.refused c.parts.view_is c.in-None.is c.begin.ensures c.recount.ensures.same
