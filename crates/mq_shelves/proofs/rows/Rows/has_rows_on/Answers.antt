use Rattle.std.proofs.Common.{ap, Some, None, ◌∙◌}
use Rattle.std.specs.Prelude.{not}
use Rattle.mq_spec_log.specs.Applies.{has_rows_on}
use Rattle.mq_shelves.proofs.FoundLaws.{rows_on}
use Rattle.mq_shelves.proofs.rows.Rows.has_rows_on.Goals as goal

pub returns-in-None : goal.returns-in-None
returns-in-None c = rows_on c.args.name.now c.self.inside.racks None c.in-None.ensures ∙ ap (has_rows_on c.args.name.now) c.self.view_is

pub returns-in-Some : goal.returns-in-Some
returns-in-Some c = ap not c.is_empty.ensures ∙ rows_on c.args.name.now c.self.inside.racks (Some c.in-Some.rack.now) c.in-Some.ensures ∙ ap (has_rows_on c.args.name.now) c.self.view_is
