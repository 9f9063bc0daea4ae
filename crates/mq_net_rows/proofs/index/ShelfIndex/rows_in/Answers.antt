use Rattle.std.proofs.Common.{List, None, Some, sym, ap, ◌∙◌}
use Rattle.std.specs.Prelude.{slice_get}
use Rattle.mq_calls.specs.declared.image.Shelf.{Shelf}
use Rattle.mq_net_rows.specs.Rolls.{place_in, shelf_name, shelf_rows}
use Rattle.mq_net_rows.proofs.RollLaws.{rows_placed}
use Rattle.mq_net_rows.proofs.index.ShelfIndex.rows_in.Goals as goal

pub returns-in-None : goal.returns-in-None
returns-in-None c = rows_placed c.args.name.now c.args.self.now None (sym c.in-None.is ∙ c.found.ensures ∙ c.self.invariant c.args.name.now ∙ ap (λ (ss : List Shelf). place_in shelf_name ss c.args.name.now) c.self.view_is)

pub returns-in-Some : goal.returns-in-Some
returns-in-Some c =
    c.rows_at.ensures ∙ ap (λ (ss : List Shelf). shelf_rows (slice_get ss c.in-Some.at)) c.self.view_is
    ∙ rows_placed c.args.name.now c.args.self.now (Some c.in-Some.at) (sym c.in-Some.is ∙ c.found.ensures ∙ c.self.invariant c.args.name.now ∙ ap (λ (ss : List Shelf). place_in shelf_name ss c.args.name.now) c.self.view_is)
