use Rattle.std.proofs.Common.{ap, ◌∙◌}
use Rattle.std.specs.Prelude.{position}
use Rattle.std.specs.Str.{bytes_eq}
use Rattle.mq_calls.specs.declared.image.Shelf.{Shelf}
use Rattle.mq_net_rows.proofs.QueueLaws.{shelf_at}
use Rattle.mq_net_rows.proofs.shelves.Shelves.place_of.Goals as goal

pub returns : goal.returns
returns c = record { value = c.place_of.ensures ∙ shelf_at c.self.inside.store c.args.name.now c.self.inside.queues ∙ ap (position (λ (s : Shelf). bytes_eq c.args.name.now s.name)) c.self.view_is }
