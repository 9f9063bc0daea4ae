use Rattle.mq_codes.proofs.CodeLaws.{named}
use Rattle.mq_codes.proofs.reason.Reason.of_name.Goals as goal

pub returns-clause-exact : goal.returns-clause-exact
returns-clause-exact c = named c.args.text.now c.named.result c.named.ensures
