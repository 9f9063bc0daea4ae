use Rattle.std.proofs.Common.{List, [], ap, ◌∙◌}
use Rattle.mq_queue.specs.declared.row.Row.{Row}
use Rattle.mq_calls.specs.declared.image.Shelf.{Shelf}
use Rattle.mq_spec_log.specs.Shelves.{set_shelf}
use Rattle.mq_shelves.specs.declared.rack.Stand.{Stand}
use Rattle.mq_shelves.specs.Spots.{spot_of}
use Rattle.mq_shelves.specs.Racks.{shelf_of, shelves_of}
use Rattle.mq_shelves.proofs.ChangeLaws.{queue_set}
use Rattle.mq_shelves.proofs.RackLaws.{racks_empty}
use Rattle.mq_shelves.proofs.rows.Rows.set_empty.Goals as goal

pub invariant_of-self-2 : goal.invariant_of-self-2
invariant_of-self-2 c = racks_empty (spot_of c.self.inside.spots) c.self.inside.next c.args.name.now c.new.result c.new.ensures c.self.inside.racks c.set.new.self c.self.invariant c.in_ok-set.ensures.named c.in_ok-set.ensures.ok

pub returns-clause-ok : goal.returns-clause-ok
returns-clause-ok c =
    ap shelves_of c.in_ok-set.ensures.ok ∙ queue_set c.args.name.now c.new.result c.self.inside.racks
    ∙ ap (λ (es : List (Stand × Row)). set_shelf (shelf_of (c.args.name.now, es)) (shelves_of c.self.inside.racks)) c.new.ensures
    ∙ ap (λ (v : List Shelf). set_shelf (record { name = c.args.name.now; rows = [] }) v) c.self.view_is
