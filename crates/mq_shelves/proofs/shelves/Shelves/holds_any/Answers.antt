use Rattle.std.proofs.Common.{List, ap, ◌∙◌}
use Rattle.std.specs.List.{list_any}
use Rattle.mq_calls.specs.declared.image.Shelf.{Shelf}
use Rattle.mq_spec_log.specs.Applies.{is_held_among}
use Rattle.mq_shelves.proofs.EachLaws.{held_among}
use Rattle.mq_shelves.proofs.shelves.Shelves.holds_any.Goals as goal

pub returns : goal.returns
returns c = c.any_held.ensures ∙ held_among c.args.idents.now c.self.inside.rows ∙ ap (λ (v : List Shelf). list_any (λ (s : Shelf). list_any (is_held_among c.args.idents.now) s.rows) v) c.self.view_is
