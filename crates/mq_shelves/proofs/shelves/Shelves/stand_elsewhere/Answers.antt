use Rattle.std.proofs.Common.{List, ap, ◌∙◌}
use Rattle.std.specs.List.{list_any}
use Rattle.mq_calls.specs.declared.image.Shelf.{Shelf}
use Rattle.mq_spec_log.specs.Applies.{is_elsewhere}
use Rattle.mq_shelves.proofs.EachLaws.{elsewhere_among}
use Rattle.mq_shelves.proofs.shelves.Shelves.stand_elsewhere.Goals as goal

pub returns : goal.returns
returns c = c.any_elsewhere.ensures ∙ elsewhere_among c.args.queue.now c.args.idents.now c.self.inside.rows ∙ ap (λ (v : List Shelf). list_any (is_elsewhere c.args.queue.now c.args.idents.now) v) c.self.view_is
