use Rattle.std.proofs.Common.{◌∙◌}
use Rattle.mq_net_apart.proofs.idents.is_twice.Goals as goal

pub returns : goal.returns
returns c = c.is_met.ensures ∙ c.requires c.args.ident.now
