use Rattle.std.proofs.Common.{List, ap, ◌∙◌}
use Rattle.std.specs.BTreeMap.{insert_entry}
use Rattle.std.proofs.lemmas.Map.Keys.{IsDistinct-from_sorted}
use Rattle.mq_queue.specs.declared.row.Row.{Row}
use Rattle.mq_shelves.specs.declared.rack.Stand.{Stand}
use Rattle.mq_shelves.specs.Racks.{stand_cmp}
use Rattle.mq_shelves.proofs.rack.Rack.put.Goals as goal

pub returns-in_err-insert-clause-apart : goal.returns-in_err-insert-clause-apart
returns-in_err-insert-clause-apart c = IsDistinct-from_sorted stand_cmp _ c.insert.ensures.ordered

pub returns-clause-ok : goal.returns-clause-ok
returns-clause-ok c = c.in_ok-insert.ensures.entries ∙ ap (λ (es : List (Stand × Row)). insert_entry stand_cmp es c.args.stand c.args.row) c.self.view_is

pub returns-clause-apart : goal.returns-clause-apart
returns-clause-apart c = IsDistinct-from_sorted stand_cmp _ c.insert.ensures.ordered
