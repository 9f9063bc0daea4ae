use Rattle.std.proofs.Common.{List, ap, ◌∙◌}
use Rattle.std.specs.Prelude.{filter, not}
use Rattle.std.specs.Str.{bytes_eq}
use Rattle.mq_calls.specs.declared.image.Shelf.{Shelf}
use Rattle.mq_shelves.specs.Spots.{spot_of}
use Rattle.mq_shelves.specs.Racks.{shelves_of}
use Rattle.mq_shelves.proofs.RackLaws.{racks_fewer, queue_gone}
use Rattle.mq_shelves.proofs.rows.Rows.drop_queue.Goals as goal

pub invariant_of-self : goal.invariant_of-self
invariant_of-self c = racks_fewer (spot_of c.self.inside.spots) c.self.inside.next c.args.name.now c.self.inside.racks c.drop_queue.new.self c.self.invariant c.drop_queue.ensures.named c.drop_queue.ensures.racks

pub returns : goal.returns
returns c =
    ap shelves_of c.drop_queue.ensures.racks ∙ queue_gone c.args.name.now c.self.inside.racks c.self.invariant.named
    ∙ ap (λ (v : List Shelf). filter (λ (s : Shelf). not (bytes_eq c.args.name.now s.name)) v) c.self.view_is
