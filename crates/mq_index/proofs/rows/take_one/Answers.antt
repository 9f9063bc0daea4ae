use Rattle.std.proofs.Common.{ap, sym, ◌∙◌}
use Rattle.std.specs.Prelude.{List, Option}
use Rattle.mq_queue.specs.declared.row.Row.{Row}
use Rattle.mq_index.specs.Lanes.{in_order}
use Rattle.mq_index.specs.Walks.{stored}
use Rattle.mq_index.specs.Slots.{row_in}
use Rattle.mq_index.proofs.ListLaws.{within}
use Rattle.mq_index.proofs.RowLaws.{none_found, none_goes, one_found, one_goes}
use Rattle.mq_index.proofs.rows.take_one.Goals as goal

pub take-requires : goal.take-requires
take-requires c = record { there = within c.args.store.now.slots _ c.in-Some.at c.in-Some.ensures.home.there }

pub returns-in-None-clause-found : goal.returns-in-None-clause-found
returns-in-None-clause-found c = sym (none_found c.args.ident.now c.args.store.now.slots c.in-None.ensures.lanes c.in-None.ensures.home)

pub returns-in-None-clause-rows : goal.returns-in-None-clause-rows
returns-in-None-clause-rows c = none_goes c.args.ident.now c.args.store.now.slots c.in-None.ensures.lanes c.in-None.ensures.home

pub returns-in-Some-clause-found : goal.returns-in-Some-clause-found
returns-in-Some-clause-found c = c.take.ensures.taken ∙ ap row_in c.in-Some.ensures.home.there ∙ sym (one_found c.args.ident.now c.args.store.now.slots c.in-Some.ensures.lanes c.in-Some.at c.in-Some.ensures.home)

pub returns-in-Some-clause-rows : goal.returns-in-Some-clause-rows
returns-in-Some-clause-rows c = ap (λ (ss : List (Option Row)). in_order (stored ss)) c.take.ensures.slots ∙ one_goes c.args.ident.now c.args.store.now.slots c.in-Some.ensures.lanes c.in-Some.at c.in-Some.ensures.home
