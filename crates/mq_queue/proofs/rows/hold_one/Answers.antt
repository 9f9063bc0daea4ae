use Rattle.std.proofs.Common.{sym}
use Rattle.std.specs.Prelude.{Some}
use Rattle.mq_queue.specs.declared.row.Row.{Row}
use Rattle.mq_queue.specs.Rows.{is_free}
use Rattle.mq_queue.specs.Queues.{is_free_one}
use Rattle.mq_queue.proofs.Edits.{none_there, none_turned, some_there, some_turned, by_ident_and}
use Rattle.mq_queue.proofs.rows.hold_one.Goals as goal

pub returns-in-None-clause-held : goal.returns-in-None-clause-held
returns-in-None-clause-held c = none_there (is_free_one c.args.ident.now) c.args.rows.now.items (sym c.in-None.ensures)

pub returns-in-None-clause-rows : goal.returns-in-None-clause-rows
returns-in-None-clause-rows c = none_turned (is_free_one c.args.ident.now) (λ (row : Row). record row { by = Some c.args.by.now }) c.args.rows.now.items (sym c.in-None.ensures)

pub returns-in-Some-clause-held : goal.returns-in-Some-clause-held
returns-in-Some-clause-held c = some_there (is_free_one c.args.ident.now) c.args.rows.now.items c.in-Some.at (sym c.in-Some.ensures)

pub returns-in-Some-clause-rows : goal.returns-in-Some-clause-rows
returns-in-Some-clause-rows c =
    some_turned (is_free_one c.args.ident.now) (λ (row : Row). record row { by = Some c.args.by.now }) c.args.rows.now.items c.in-Some.at c.index_mut.result.now (sym c.in-Some.ensures) c.index_mut.ensures.value
    (by_ident_and c.args.ident.now is_free c.args.rows.now.items c.requires.distinct)
