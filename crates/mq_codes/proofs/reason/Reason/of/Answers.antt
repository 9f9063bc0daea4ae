use Rattle.mq_codes.proofs.CodeLaws.{numbered}
use Rattle.mq_codes.proofs.reason.Reason.of.Goals as goal

pub returns-clause-exact : goal.returns-clause-exact
returns-clause-exact c = numbered c.args.number c.numbered.result c.numbered.ensures
