use Rattle.std.proofs.Common.{[], sym}
use Rattle.mq_split.proofs.opening.close_wire.Goals as goal

pub returns-clause-out : goal.returns-clause-out
returns-clause-out g c = sym (c.close.ensures.left [] c.requires.open.none.0)

pub returns-clause-back : goal.returns-clause-back
returns-clause-back g c = sym (c.close-2.ensures.left [] c.requires.open.none.1)
