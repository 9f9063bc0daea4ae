use Rattle.std.proofs.Common.{ap, sym, ◌∙◌}
use Rattle.mq_index.specs.Slots.{row_in}
use Rattle.mq_index.proofs.ListLaws.{within}
use Rattle.mq_index.proofs.RowLaws.{none_found, one_found}
use Rattle.mq_index.proofs.rows.row_of.Goals as goal

pub returns-in-None : goal.returns-in-None
returns-in-None c = sym (none_found c.args.ident.now c.args.store.now.slots c.in-None.ensures.lanes c.in-None.ensures.home)

pub row-requires : goal.row-requires
row-requires c = record { there = within c.args.store.now.slots _ c.in-Some.at c.in-Some.ensures.home.there }

pub returns-in-Some : goal.returns-in-Some
returns-in-Some c = c.row.ensures ∙ ap row_in c.in-Some.ensures.home.there ∙ sym (one_found c.args.ident.now c.args.store.now.slots c.in-Some.ensures.lanes c.in-Some.at c.in-Some.ensures.home)
