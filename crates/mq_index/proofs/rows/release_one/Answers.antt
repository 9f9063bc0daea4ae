use Rattle.std.proofs.Common.{ap, sym, ◌∙◌}
use Rattle.std.specs.Prelude.{List, Option}
use Rattle.mq_queue.specs.declared.row.Row.{Row}
use Rattle.mq_index.specs.Lanes.{in_order}
use Rattle.mq_index.specs.Walks.{stored}
use Rattle.mq_index.proofs.ListLaws.{within}
use Rattle.mq_index.proofs.RowLaws.{none_freed, none_released, one_freed, one_released}
use Rattle.mq_index.proofs.rows.release_one.Goals as goal

pub release-requires : goal.release-requires
release-requires c = record { there = within c.args.store.now.slots _ c.in-Some.at c.in-Some.ensures.home.there }

pub returns-in-None-clause-released : goal.returns-in-None-clause-released
returns-in-None-clause-released c = sym (none_released c.args.ident.now c.args.store.now.slots c.in-None.ensures.lanes c.in-None.ensures.home)

pub returns-in-None-clause-rows : goal.returns-in-None-clause-rows
returns-in-None-clause-rows c = none_freed c.args.ident.now c.args.store.now.slots c.in-None.ensures.lanes c.args.backed_out c.in-None.ensures.home

pub returns-in-Some-clause-released : goal.returns-in-Some-clause-released
returns-in-Some-clause-released c = (c.release.ensures.released c.in-Some.ensures.home.row c.in-Some.ensures.home.there).0 ∙ sym (one_released c.args.ident.now c.args.store.now.slots c.in-Some.ensures.lanes c.in-Some.at c.in-Some.ensures.home)

pub returns-in-Some-clause-rows : goal.returns-in-Some-clause-rows
returns-in-Some-clause-rows c = ap (λ (ss : List (Option Row)). in_order (stored ss)) (c.release.ensures.released c.in-Some.ensures.home.row c.in-Some.ensures.home.there).1 ∙ one_freed c.args.ident.now c.args.store.now.slots c.in-Some.ensures.lanes c.args.backed_out c.in-Some.at c.in-Some.ensures.home
