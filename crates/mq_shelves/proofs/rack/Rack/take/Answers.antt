use Rattle.std.proofs.lemmas.Map.Keys.{IsDistinct-from_sorted}
use Rattle.mq_shelves.specs.Racks.{stand_cmp}
use Rattle.mq_shelves.proofs.rack.Rack.take.Goals as goal

pub returns-clause-apart : goal.returns-clause-apart
returns-clause-apart c = IsDistinct-from_sorted stand_cmp _ c.remove-row.ensures.ordered
