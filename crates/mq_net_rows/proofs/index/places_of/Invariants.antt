use Rattle.std.proofs.Common.{take}
use Rattle.std.specs.Str.{bytes_eq}
use Rattle.indexmap.specs.IndexMap.{get}
use Rattle.mq_net_rows.specs.Rolls.{AreFound, shelf_name}
use Rattle.mq_net_rows.proofs.index.places_of.Given as goal

abbrev pub invariant-loop-at : goal.invariant-loop-at
invariant-loop-at l = AreFound shelf_name (get bytes_eq l.places) (take l.at l.shelves)
