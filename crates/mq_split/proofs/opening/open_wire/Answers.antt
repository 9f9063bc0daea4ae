use Rattle.std.proofs.Common.{[], sym, ◌∙◌}
use Rattle.mq_split.proofs.opening.open_wire.Goals as goal

pub returns-in_default-open-clause-err : goal.returns-in_default-open-clause-err
returns-in_default-open-clause-err g c = (sym (c.close.ensures.left [] c.in-Ok.ensures.popper.1) ∙ c.in-Ok.ensures.pusher.1, c.in_default-open.ensures.err)
