use Rattle.mq_split.proofs.OpenLaws.{err_same}
use Rattle.mq_split.proofs.opening.open_at.Goals as goal

pub returns-clause-err : goal.returns-clause-err
returns-clause-err g c = err_same c.open_cable.result _ _ _ _ c.at_mut.ensures.value c.open_cable.ensures.err
