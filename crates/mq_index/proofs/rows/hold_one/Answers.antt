use Rattle.std.proofs.Common.{ap, sym, ◌∙◌}
use Rattle.std.specs.Prelude.{List, Option}
use Rattle.mq_queue.specs.declared.row.Row.{Row}
use Rattle.mq_index.specs.Lanes.{in_order}
use Rattle.mq_index.specs.Walks.{stored}
use Rattle.mq_index.proofs.ListLaws.{within}
use Rattle.mq_index.proofs.RowLaws.{none_changed, none_held, one_changed, one_held}
use Rattle.mq_index.proofs.rows.hold_one.Goals as goal

pub hold-requires : goal.hold-requires
hold-requires c = record { there = within c.args.store.now.slots _ c.in-Some.at c.in-Some.ensures.home.there }

pub returns-in-None-clause-held : goal.returns-in-None-clause-held
returns-in-None-clause-held c = sym (none_held c.args.ident.now c.args.store.now.slots c.in-None.ensures.lanes c.in-None.ensures.home)

pub returns-in-None-clause-rows : goal.returns-in-None-clause-rows
returns-in-None-clause-rows c = none_changed c.args.ident.now c.args.store.now.slots c.in-None.ensures.lanes c.args.by.now c.in-None.ensures.home

pub returns-in-Some-clause-held : goal.returns-in-Some-clause-held
returns-in-Some-clause-held c = (c.hold.ensures.held c.in-Some.ensures.home.row c.in-Some.ensures.home.there).0 ∙ sym (one_held c.args.ident.now c.args.store.now.slots c.in-Some.ensures.lanes c.in-Some.at c.in-Some.ensures.home)

pub returns-in-Some-clause-rows : goal.returns-in-Some-clause-rows
returns-in-Some-clause-rows c = ap (λ (ss : List (Option Row)). in_order (stored ss)) (c.hold.ensures.held c.in-Some.ensures.home.row c.in-Some.ensures.home.there).1 ∙ one_changed c.args.ident.now c.args.store.now.slots c.in-Some.ensures.lanes c.args.by.now c.in-Some.at c.in-Some.ensures.home
