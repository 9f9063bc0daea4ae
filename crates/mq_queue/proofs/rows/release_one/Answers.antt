use Rattle.std.proofs.Common.{sym, ap, ◌∙◌}
use Rattle.std.specs.Prelude.{not, slice_set}
use Rattle.mq_queue.specs.declared.row.Row.{Row}
use Rattle.mq_queue.specs.Rows.{is_free}
use Rattle.mq_queue.specs.Queues.{is_held_one, freed}
use Rattle.mq_queue.proofs.Edits.{none_there, none_turned, some_there, some_turned, by_ident_and}
use Rattle.mq_queue.proofs.CountLaws.{counts_released}
use Rattle.mq_queue.proofs.rows.release_one.Goals as goal

pub returns-in-None-clause-released : goal.returns-in-None-clause-released
returns-in-None-clause-released c = none_there (is_held_one c.args.ident.now) c.args.rows.now.items (sym c.in-None.ensures)

pub returns-in-None-clause-rows : goal.returns-in-None-clause-rows
returns-in-None-clause-rows c = none_turned (is_held_one c.args.ident.now) (freed c.args.backed_out) c.args.rows.now.items (sym c.in-None.ensures)

pub returns-in-Some-clause-released : goal.returns-in-Some-clause-released
returns-in-Some-clause-released c = some_there (is_held_one c.args.ident.now) c.args.rows.now.items c.in-Some.at (sym c.in-Some.ensures)

pub returns-in-Some-clause-rows : goal.returns-in-Some-clause-rows
returns-in-Some-clause-rows c =
    ap (λ (row : Row). slice_set c.args.rows.now.items c.in-Some.at row) c.free_row.ensures
    ∙ some_turned (is_held_one c.args.ident.now) (freed c.args.backed_out) c.args.rows.now.items c.in-Some.at c.index_mut.result.now (sym c.in-Some.ensures) c.index_mut.ensures.value
    (by_ident_and c.args.ident.now (λ (row : Row). not (is_free row)) c.args.rows.now.items c.requires.distinct)

pub returns-in-Some-clause-counts : goal.returns-in-Some-clause-counts
returns-in-Some-clause-counts c =
    counts_released c.args.ident.now c.args.rows.now.items c.in-Some.at c.index_mut.result.now c.free_row.new.row c.index.result.now c.args.frees.now c.count_in.new.frees (sym c.in-Some.ensures) c.index_mut.ensures.value c.index.ensures c.requires.counts c.count_in.ensures
