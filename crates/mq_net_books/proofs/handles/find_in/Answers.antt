use Rattle.std.proofs.Common.{subst}
use Rattle.mq_net_books.specs.Handles.{RiseSo}
use Rattle.mq_net_books.proofs.handles.find_in.Goals as goal

pub halve-requires : goal.halve-requires
halve-requires c = (subst (λ b. RiseSo b c.args.last c.args.handles.now) c.if-rising.true c.requires).rising
