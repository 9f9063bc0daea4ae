use Rattle.mq_shelves.specs.Spots.{spot_of}
use Rattle.mq_shelves.proofs.RackLaws.{racks_none}
use Rattle.mq_shelves.proofs.rows.Rows.new.Goals as goal

pub invariant_of-result : goal.invariant_of-result
invariant_of-result c = racks_none (spot_of c.new-2.result) c.new.result c.new.ensures
